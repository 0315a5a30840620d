-- Steps: one probe after another, as the code makes them, and what is left of a walk from its root after so many.
pub mod Steps
