pub mod TakenAndLeft
