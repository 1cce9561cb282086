pub mod Probability
