-- Which messages fit a graph (docs/MACHINE.md, "Element step"): the definitions of `id_step`.
pub use Rattle.id_step.specs.Fits.{TakesReturn, ContinuationFits, IsCell, AddressFits, TokenFits}
pub use Rattle.id_step.specs.Fits.{ReplyFits, ReadFits, WriteFits, PayloadFits, Fits, IsFor}
