pub mod CsrAccess
