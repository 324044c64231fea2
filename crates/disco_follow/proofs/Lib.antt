mod Appended
mod ListedChanges
mod NoFloats
mod Turns
