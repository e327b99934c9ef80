-- Two inputs of a table that can be swapped, as a test: it is that of networks, whose laws say what it means.
unfoldable pub use Rattle.networks.specs.Swapping.{swapped, unchanged}
pub use Rattle.networks.specs.Swapping.{swappable}
