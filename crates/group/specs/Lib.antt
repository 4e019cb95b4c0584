pub mod GroupRan
