mod Common
mod StateLines
