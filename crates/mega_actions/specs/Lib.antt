pub mod StandsAt
pub mod IsAt
pub mod Leaves
pub mod Turns
pub mod Waiting
pub mod Acted
pub mod Later
pub use Rattle.mega_answers.specs as of_answers
pub use Rattle.mega_answers.specs.of_step_work as of_step_work
pub use Rattle.mega_answers.specs.of_voter as of_voter
pub use Rattle.mega_answers.specs.of_leases as of_leases
pub use Rattle.mega_answers.specs.of_operations as of_operations
pub use Rattle.mega_answers.specs.of_pumps as of_pumps
pub use Rattle.mega_answers.specs.of_view as of_view
pub use Rattle.mega_answers.specs.of_marks as of_marks
pub use Rattle.mega_answers.specs.of_node_laws as of_node_laws
