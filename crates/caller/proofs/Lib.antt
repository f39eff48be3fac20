pub mod ExchangeLaws
pub mod EveryCall
pub mod MadeLaws
pub mod Example
