mod ListFits
mod InstrFits
mod PartFits
mod FuncFits
mod WholeFits
mod ShapeFits
