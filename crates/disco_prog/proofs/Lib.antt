mod Restarts
mod WantOfMemory
