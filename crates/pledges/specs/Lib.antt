pub mod Pledges
