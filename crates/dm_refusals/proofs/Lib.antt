mod EndingLemmas
mod RefusalLemmas
