mod CertifiedCopies
mod Exactness
mod FailedFetches
mod LongerHistories
mod PlainCopies
mod RefreshResults
mod Steps
mod ToldFetches
