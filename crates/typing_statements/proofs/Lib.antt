pub mod ForLoops
