pub mod scaffold
