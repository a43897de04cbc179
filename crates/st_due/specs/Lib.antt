-- From which moment on a tick does something.
pub mod Moments
pub mod ServerDue
