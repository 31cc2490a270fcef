pub mod Palette
pub mod PaletteStep
pub mod Answer
pub mod scaffold
