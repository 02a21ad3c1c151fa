mod Common
mod Good
mod LineLists
mod Words
