mod ProgramFacts
mod Rows
