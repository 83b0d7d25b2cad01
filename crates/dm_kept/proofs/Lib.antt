mod CurrentLemmas
mod PutBackLemmas
