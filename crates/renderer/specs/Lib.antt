pub mod Renderer
