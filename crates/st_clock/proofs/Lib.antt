mod Numbers
mod Pairs
mod Firsts
mod Laws
