-- For the crates that do not name `bits`.
pub use Rattle.bits.proofs.Table.{HasAt}
