-- A program that has this crate's table, and the code of what the crate calls, has the code of these functions: for the crate `linked`.
use Rattle.rules.proofs.Table.{HasAt}
use Rattle.renderer.proofs.TheLink.{table, Below, linked-renderer::renderer_data}
use Rattle.renderer.proofs.renderer_data.Symbol.{code as renderer_data_code}

pub renderer_data : HasAt "renderer" table Below renderer_data_code
renderer_data = linked-renderer::renderer_data
