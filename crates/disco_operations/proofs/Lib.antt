mod Names
mod SpelledWords
