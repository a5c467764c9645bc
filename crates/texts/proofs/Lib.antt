mod Characters
mod Fitting
