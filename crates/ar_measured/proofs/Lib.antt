mod Measures
mod Numbers
