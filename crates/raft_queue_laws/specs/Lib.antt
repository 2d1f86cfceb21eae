pub mod DetectableDamage
