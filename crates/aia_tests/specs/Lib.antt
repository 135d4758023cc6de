pub mod PassHistories
