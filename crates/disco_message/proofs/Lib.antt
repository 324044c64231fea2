pub mod Digits
pub mod KeptHeads
pub mod ReplyHeads
pub mod RequestHeads
pub mod SpelledCertificate
pub mod StatusLines
pub mod Written
