mod SixLiterals
mod SmallTables
