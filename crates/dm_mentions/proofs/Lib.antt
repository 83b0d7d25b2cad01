mod AgainLemmas
mod ChainLemmas
mod EventLemmas
mod FindLemmas
mod PositionLemmas
