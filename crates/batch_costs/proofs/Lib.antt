mod Common
mod MarkedWords
mod PlainCosts
