pub mod InodesInUse
