mod LayerLemmas
mod PartLemmas
mod PlaceLemmas
mod ReadingLemmas
mod TextLemmas
