pub mod SmallForms
