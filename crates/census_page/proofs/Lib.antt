mod Escaping
mod Steps
mod Tables
