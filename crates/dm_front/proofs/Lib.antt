mod FrontLemmas
