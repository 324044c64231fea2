mod Drops
mod Puts
