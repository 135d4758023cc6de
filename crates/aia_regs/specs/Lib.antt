pub mod BitUpdate
pub mod Operations
pub mod FileRegisters
pub mod DomainRegisters
pub mod Fields
pub mod Request
pub mod AddressMap
pub mod Top
