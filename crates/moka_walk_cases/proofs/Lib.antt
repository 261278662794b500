mod Standing
mod Fitting
