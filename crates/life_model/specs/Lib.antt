pub mod Cell
pub mod Generation
pub mod Rule
pub mod Evolution
pub mod Symmetry
pub mod Box
pub mod Recurrence
pub mod Coded
