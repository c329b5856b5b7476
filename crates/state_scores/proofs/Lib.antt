mod Common
mod Orders
mod Best
mod ScoreRows
mod TakenStates
