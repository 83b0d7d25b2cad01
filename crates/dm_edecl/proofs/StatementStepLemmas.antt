-- What statements are typed with, part by part, settles with its parts.
use Rattle.std.specs.Prelude.{Bool, true, Option, Some, None, refl}
use Rattle.std.specs.FinMap as map
use Rattle.dm_int.specs.declared.Kind.{Kind}
use Rattle.dm_type.specs.CTypes.{CType}
use Rattle.dm_tree.specs.Scenes.{Scene}
use Rattle.dm_typing.specs.Known.{Known, Outcome, given, broken}
use Rattle.dm_typing.specs.Sound.{GivesMore}
use Rattle.dm_edecl.specs.Standing.{Standing, Progress, goes_on, stops, further, knowing, typing, in_scope}
use Rattle.dm_edecl.specs.Statements.{Within, in_loop, in_switch}
use Rattle.dm_edecl.specs.Settled.{IsSoundStanding, Keeps, IsFinal, Settles}
use Rattle.dm_edecl.specs.Fit.{StandsIn}
use Rattle.dm_edecl.proofs.KeepsLemmas.{keeps-final, knowing-keeps, knowing-sound, settles-from, settles-further, settles-scope}

-- ---- scenes

-- a scene is the same but for where a statement stands
pub rescened : (s : Standing) (final : Scene) (result : CType) (breaks continues : Bool) (labels : Option Kind) → IsFinal s final
    → IsFinal s (record final { result = result; breaks = breaks; continues = continues; labels = labels })
rescened s final result breaks continues labels last = record { types = last.types; contents = last.contents; declared = last.declared }

abbrev pub plain : Scene → Scene
plain scene = record scene { labels = None }

abbrev pub looping : Scene → Scene
looping scene = record scene { breaks = true; continues = true; labels = None }

abbrev pub switching : Kind → Scene → Scene
switching kind scene = record scene { breaks = true; labels = Some kind }

pub plain-final : (s : Standing) (final : Scene) → IsFinal s final → IsFinal s (plain final)
plain-final s final last = rescened s final final.result final.breaks final.continues None last

pub looping-final : (s : Standing) (final : Scene) → IsFinal s final → IsFinal s (looping final)
looping-final s final last = rescened s final final.result true true None last

pub switching-final : (s : Standing) (final : Scene) (kind : Kind) → IsFinal s final → IsFinal s (switching kind final)
switching-final s final kind last = rescened s final final.result true final.continues (Some kind) last

pub stands-plain : (within : Within) (scene : Scene) → StandsIn within scene → StandsIn within (plain scene)
stands-plain within scene stands = record { result = stands.result; breaks = stands.breaks; continues = stands.continues }

pub stands-looping : (within : Within) (scene : Scene) → StandsIn within scene → StandsIn (in_loop within) (looping scene)
stands-looping within scene stands = record { result = stands.result; breaks = λ yes. refl; continues = λ yes. refl }

pub stands-switching : (within : Within) (scene : Scene) (kind : Kind) → StandsIn within scene → StandsIn (in_switch within) (switching kind scene)
stands-switching within scene kind stands = record { result = stands.result; breaks = λ yes. refl; continues = stands.continues }

-- ---- steps

-- what is so of something in each scene that the end makes of what is known here
abbrev pub At : {A : Type 0} → Standing → (Scene → A → Type 0) → A → Type 0
At s P it = (final : Scene) → IsFinal s final → P final it

pub at-further : {A : Type 0} (P : Scene → A → Type 0) (s t : Standing) (it : A) → Keeps s t → At s P it → At t P it
at-further P s t it kept h final last = h final (keeps-final s t final kept last)

-- an expression is typed, and is such
abbrev pub Types : {A : Type 0} → (Scene → A → Type 0) → Standing → Outcome A → Type 0
Types P s (given known it) = IsSoundStanding (knowing s known) × Keeps s (knowing s known) × At (knowing s known) P it
Types P s (broken rule at) = Unit {0}

pub types-by : {A : Type 0} (P : Known → A → Type 0) (Q : Scene → A → Type 0) (s : Standing) (outcome : Outcome A) → IsSoundStanding s → GivesMore s.known P outcome
    → ((known : Known) (it : A) → IsSoundStanding (knowing s known) → P known it → At (knowing s known) Q it) → Types Q s outcome
types-by P Q s (given known it) sound h step =
    let still = knowing-sound s known sound h.0 h.1 in (still, knowing-keeps s known sound h.0, step known it still h.3)
types-by P Q s (broken rule at) sound h step = tt

pub typing-settles : {A B : Type 0} (P : Scene → A → Type 0) (Q : Scene → B → Type 0) (s : Standing) (outcome : Outcome A) (next : Standing → A → Progress B) → Types P s outcome
    → ((t : Standing) (it : A) → IsSoundStanding t → At t P it → Settles Q t (next t it)) → Settles Q s (typing s outcome next)
typing-settles P Q s (given known it) next h step = settles-from Q s (knowing s known) (next (knowing s known) it) h.1 (step (knowing s known) it h.0 h.2)
typing-settles P Q s (broken rule at) next h step = tt

pub typing-then : {A B : Type 0} (P : Scene → A → Type 0) (Q : Scene → B → Type 0) (s : Standing) (outcome : Outcome A) (next : Standing → A → Progress B) → Types P s outcome
    → ((t : Standing) (it : A) → IsSoundStanding t → Keeps s t → At t P it → Settles Q t (next t it)) → Settles Q s (typing s outcome next)
typing-then P Q s (given known it) next h step = settles-from Q s (knowing s known) (next (knowing s known) it) h.1 (step (knowing s known) it h.0 h.1 h.2)
typing-then P Q s (broken rule at) next h step = tt

-- and what is made of it stands behind
pub value-settles : {A C : Type 0} (P : Scene → A → Type 0) (Q : Scene → C → Type 0) (s : Standing) (outcome : Outcome A) (make : A → C) → Types P s outcome
    → ((t : Standing) (value : A) → Keeps s t → At t P value → At t Q (make value)) → Settles Q s (typing s outcome (λ behind value. goes_on behind (make value)))
value-settles P Q s (given known it) make h step = (h.0, h.1, step (knowing s known) it h.1 h.2)
value-settles P Q s (broken rule at) make h step = tt

pub made-settles : {A B : Type 0} (P : Scene → A → Type 0) (Q : Scene → B → Type 0) (s : Standing) (progress : Progress A) (make : A → B) → Settles P s progress
    → ((t : Standing) (it : A) → Keeps s t → At t P it → At t Q (make it)) → Settles Q s (further progress (λ t it. goes_on t (make it)))
made-settles P Q s (goes_on t it) make h step = (h.0, h.1, step t it h.1 h.2)
made-settles P Q s (stops rule at) make h step = tt

pub scope-settles : {A : Type 0} (P : Scene → A → Type 0) (s : Standing) (next : Standing → Progress A) → IsSoundStanding s
    → ((t : Standing) → IsSoundStanding t → Settles P t (next t)) → Settles P s (in_scope s next)
scope-settles P s next sound step = settles-scope P map.empty s next sound step

-- a part that is a scope of its own
pub part-settles : {B C : Type 0} (P : Scene → B → Type 0) (Q : Scene → C → Type 0) (s : Standing) (next : Standing → Progress B) (make : B → C) → IsSoundStanding s
    → ((t : Standing) → IsSoundStanding t → Settles P t (next t)) → ((t : Standing) (made : B) → Keeps s t → At t P made → At t Q (make made))
    → Settles Q s (further (in_scope s next) (λ behind made. goes_on behind (make made)))
part-settles P Q s next make sound step fits = made-settles P Q s (in_scope s next) make (scope-settles P s next sound step) fits

pub headed-settles : {A B C : Type 0} (P : Scene → A → Type 0) (R : Scene → B → Type 0) (Q : Scene → C → Type 0) (s : Standing) (outcome : Known → Outcome A) (next : A → Standing → Progress B)
    (make : A → B → C) → IsSoundStanding s → ((t : Standing) → IsSoundStanding t → Types P t (outcome t.known))
    → ((value : A) (t : Standing) → IsSoundStanding t → Settles R t (next value t))
    → ((t : Standing) (value : A) (made : B) → At t P value → At t R made → At t Q (make value made))
    → Settles Q s (in_scope s (λ inside. typing inside (outcome inside.known) (λ then_inside value.
    further (in_scope then_inside (next value)) (λ behind made. goes_on behind (make value made)))))
headed-settles P R Q s outcome next make sound one rest fits =
    scope-settles Q s
    (λ inside. typing inside (outcome inside.known) (λ then_inside value. further (in_scope then_inside (next value)) (λ behind made. goes_on behind (make value made)))) sound
    (λ t inside. typing-settles P Q t (outcome t.known)
    (λ then_inside value. further (in_scope then_inside (next value)) (λ behind made. goes_on behind (make value made))) (one t inside)
    (λ u value still has. part-settles R Q u (next value) (make value) still (rest value)
    (λ v made kept mine. fits v value made (at-further P u v value kept has) mine)))

pub either-settles : {A B C : Type 0} (P : Scene → A → Type 0) (R : Scene → B → Type 0) (Q : Scene → C → Type 0) (s : Standing) (outcome : Known → Outcome A) (first second : Standing → Progress B)
    (make : A → B → B → C) → IsSoundStanding s → ((t : Standing) → IsSoundStanding t → Types P t (outcome t.known))
    → ((t : Standing) → IsSoundStanding t → Settles R t (first t)) → ((t : Standing) → IsSoundStanding t → Settles R t (second t))
    → ((t : Standing) (value : A) (one other : B) → At t P value → At t R one → At t R other → At t Q (make value one other))
    → Settles Q s (in_scope s (λ inside. typing inside (outcome inside.known) (λ then_inside value.
    further (in_scope then_inside first) (λ then_more one. further (in_scope then_more second) (λ behind other. goes_on behind (make value one other))))))
either-settles P R Q s outcome first second make sound head one two fits =
    scope-settles Q s
    (λ inside. typing inside (outcome inside.known) (λ then_inside value.
    further (in_scope then_inside first) (λ then_more one. further (in_scope then_more second) (λ behind other. goes_on behind (make value one other))))) sound
    (λ t inside. typing-settles P Q t (outcome t.known)
    (λ then_inside value. further (in_scope then_inside first) (λ then_more one. further (in_scope then_more second) (λ behind other. goes_on behind (make value one other)))) (head t inside)
    (λ u value still has. settles-further R Q u (in_scope u first) (λ then_more one. further (in_scope then_more second) (λ behind other. goes_on behind (make value one other)))
    (scope-settles R u first still one)
    (λ v made fine kept mine. part-settles R Q v second (make value made) fine two
    (λ w other further its. fits w value made other (at-further P v w value further (at-further P u v value kept has)) (at-further R v w made further mine) its))))

pub footed-settles : {A B C : Type 0} (P : Scene → A → Type 0) (R : Scene → B → Type 0) (Q : Scene → C → Type 0) (s : Standing) (next : Standing → Progress B) (outcome : Known → Outcome A)
    (make : B → A → C) → IsSoundStanding s → ((t : Standing) → IsSoundStanding t → Settles R t (next t)) → ((t : Standing) → IsSoundStanding t → Types P t (outcome t.known))
    → ((t : Standing) (made : B) (value : A) → At t R made → At t P value → At t Q (make made value))
    → Settles Q s (in_scope s (λ inside. further (in_scope inside next) (λ then_inside made. typing then_inside (outcome then_inside.known) (λ behind value. goes_on behind (make made value)))))
footed-settles P R Q s next outcome make sound body foot fits =
    scope-settles Q s
    (λ inside. further (in_scope inside next) (λ then_inside made. typing then_inside (outcome then_inside.known) (λ behind value. goes_on behind (make made value)))) sound
    (λ t inside. settles-further R Q t (in_scope t next) (λ then_inside made. typing then_inside (outcome then_inside.known) (λ behind value. goes_on behind (make made value)))
    (scope-settles R t next inside body)
    (λ u made still kept mine. value-settles P Q u (outcome u.known) (make made) (foot u still)
    (λ v value further has. fits v made value (at-further R u v made further mine) has)))

pub loop-settles : {A B C D : Type 0} (P : Scene → A → Type 0) (V W : Scene → B → Type 0) (R : Scene → C → Type 0) (Q : Scene → D → Type 0) (s : Standing) (start : Standing → Progress A)
    (second third : Known → Outcome B) (body : Standing → Progress C) (make : A → B → B → C → D) → IsSoundStanding s
    → ((t : Standing) → IsSoundStanding t → Settles P t (start t)) → ((t : Standing) → IsSoundStanding t → Types V t (second t.known))
    → ((t : Standing) → IsSoundStanding t → Types W t (third t.known)) → ((t : Standing) → IsSoundStanding t → Settles R t (body t))
    → ((t : Standing) (one : A) (two three : B) (made : C) → At t P one → At t V two → At t W three → At t R made → At t Q (make one two three made))
    → Settles Q s (in_scope s (λ inside. further (start inside) (λ then_inside one. typing then_inside (second then_inside.known) (λ then_more two.
    typing then_more (third then_more.known) (λ then_all three. further (in_scope then_all body) (λ behind made. goes_on behind (make one two three made)))))))
loop-settles P V W R Q s start second third body make sound begin test step each fits =
    scope-settles Q s
    (λ inside. further (start inside) (λ then_inside one. typing then_inside (second then_inside.known) (λ then_more two.
    typing then_more (third then_more.known) (λ then_all three. further (in_scope then_all body) (λ behind made. goes_on behind (make one two three made)))))) sound
    (λ t inside. settles-further P Q t (start t)
    (λ then_inside one. typing then_inside (second then_inside.known) (λ then_more two.
    typing then_more (third then_more.known) (λ then_all three. further (in_scope then_all body) (λ behind made. goes_on behind (make one two three made))))) (begin t inside)
    (λ u one still kept first. typing-then V Q u (second u.known)
    (λ then_more two. typing then_more (third then_more.known) (λ then_all three. further (in_scope then_all body) (λ behind made. goes_on behind (make one two three made)))) (test u still)
    (λ v two fine further_kept has. typing-then W Q v (third v.known) (λ then_all three. further (in_scope then_all body) (λ behind made. goes_on behind (make one two three made))) (step v fine)
    (λ w three good more has-too. part-settles R Q w body (make one two three) good each
    (λ x made last mine.
    fits x one two three made (at-further P w x one last (at-further P v w one more (at-further P u v one further_kept first)))
    (at-further V w x two last (at-further V v w two more has)) (at-further W w x three last has-too) mine)))))

-- items, one behind the other
pub more-settle : {A B C : Type 0} (P : Scene → A → Type 0) (R : Scene → B → Type 0) (Q : Scene → C → Type 0) (s : Standing) (first : Progress A) (others : Standing → A → Progress B) (make : A → B → C)
    → Settles P s first → ((t : Standing) (it : A) → IsSoundStanding t → Settles R t (others t it))
    → ((t : Standing) (made : A) (more : B) → At t P made → At t R more → At t Q (make made more))
    → Settles Q s (further first (λ then_standing made. further (others then_standing made) (λ behind more. goes_on behind (make made more))))
more-settle P R Q s first others make one rest fits =
    settles-further P Q s first (λ then_standing made. further (others then_standing made) (λ behind more. goes_on behind (make made more))) one
    (λ t made still kept mine. made-settles R Q t (others t made) (make made) (rest t made still) (λ u more further all. fits u made more (at-further P t u made further mine) all))
