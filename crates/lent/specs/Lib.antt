-- What tables, queues and indexes in lent words hold.
pub mod Indexes
pub mod Numbers
pub mod Once
pub mod Queues
pub mod Tables
