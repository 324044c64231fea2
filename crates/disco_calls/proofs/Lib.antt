mod FilledNames
mod FoundCalls
mod Listed
mod Named
mod RouterTable
mod RowWalks
mod Rows
