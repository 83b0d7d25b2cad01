use Rattle.dm_places.specs.Places.{LiesIn}
use Rattle.dm_places.proofs.LayerLemmas.{refused-lies, syntax-lies, typing-lies, layers-lie}
use Rattle.dm_places.proofs.laws.later_refusals_lie_in_files.Goals as goal

pub returns-clause-tokens : goal.returns-clause-tokens
returns-clause-tokens c setting tokens refusal all is = refused-lies (LiesIn setting) tokens refusal all is

pub returns-clause-syntax : goal.returns-clause-syntax
returns-clause-syntax c setting tokens made refusal all is refuses = syntax-lies (LiesIn setting) tokens made refusal all is refuses

pub returns-clause-typing : goal.returns-clause-typing
returns-clause-typing c setting tokens made externals refusal all is syntax breaks = typing-lies (LiesIn setting) tokens made externals refusal all is syntax breaks

pub returns-clause-layers : goal.returns-clause-layers
returns-clause-layers c setting tokens refusal all stops = layers-lie (LiesIn setting) tokens refusal all stops
