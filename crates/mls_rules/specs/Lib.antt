pub mod Levels
pub mod Rules
-- What speaks of a state alone stands in mls_state, and is named here too.
pub use Rattle.mls_state.specs.Audit
pub use Rattle.mls_state.specs.Changes
pub use Rattle.mls_state.specs.Properties
pub use Rattle.mls_state.specs.State
pub use Rattle.mls_state.specs.StateView
