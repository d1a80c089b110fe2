mod Functions
mod Nodes
mod Shapes
mod Steps
mod Tables
mod Tree
mod Types
mod Whole
