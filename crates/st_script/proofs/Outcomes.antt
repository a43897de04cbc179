-- What was written, next to the outcome of a script.
use Rattle.std.proofs.Common.{◌≡◌, ℕ, ◌+◌, ◌<◌, List, [], ◌∷◌, ◌++◌, length, take, drop, refl, sym, ◌∙◌, ap, subst, arith, take-append-drop}
use Rattle.std.specs.Prelude.{Option, Some, None, Result, Ok, Err, OnOk, IfSome, if◌then◌else◌, ⊤}
use Rattle.std.specs.Io.KnownBytes.{Appends, prepend_known}
use Rattle.std.proofs.KnownBytes.{Appends-nil, Appends-trans}
use Rattle.std.proofs.Math.Seq.{take-append_seam}
use Rattle.std.proofs.lemmas.Bool.{lt-ltb}
use Rattle.std.proofs.lemmas.List.{append_assoc}
use Rattle.st_link.specs.Prefixes.{AppendsPrefix}
use Rattle.st_schedule.specs.declared.fault.Fault.{Fault}
use Rattle.st_schedule_words.specs.Lines.{lines_of}
use Rattle.st_schedule_words.specs.Words.{split}
use Rattle.st_script.specs.declared.fault.ScriptFault.{ScriptFault}
use Rattle.st_script.specs.declared.fault.ScriptFault.TheVariants as faults
use Rattle.st_script.specs.Scripts.{Ending, Outcome, Rules, Stopped, Whole, answer_lines, behind, begun, ended, first_line, first_of, headed_lines, play_from, read_line, short_line, stopped, stopped_text, whole, with_read}
use Rattle.st_script.specs.Ends.{IsNoLine, IsWhole, Refuses, Reports, Writes}
use Rattle.st_script.specs.Ahead.{Finds, GoesAhead, Heads, IsLine, ReadsOn}
use Rattle.st_script.specs.States.{Goes, IsBegun, IsRead}
use Rattle.st_script.specs.declared.fault.Stop.{Stop}
use Rattle.st_script.specs.declared.fault.Stop.TheVariants as stops

-- Fronts.

pub unwritten : (before : Option (List ℕ)) (whole : List ℕ) → AppendsPrefix before before whole
unwritten before whole = (0, Appends-nil before)

prefix_of : (before now : Option (List ℕ)) (whole t rest : List ℕ) → Appends before now t → whole ≡ t ++ rest → AppendsPrefix before now whole
prefix_of before now whole t rest h e = (length t, subst (Appends before now) (sym (ap (take (length t)) e ∙ take-append_seam t rest)) h)

-- a prefix of what follows a text that was written
prefix_behind : (before mid now : Option (List ℕ)) (t u : List ℕ) → Appends before mid t → AppendsPrefix mid now u → AppendsPrefix before now (t ++ u)
prefix_behind before mid now t u a h =
    prefix_of before now (t ++ u) (t ++ take h.0 u) (drop h.0 u) (Appends-trans before mid now t (take h.0 u) a h.1)
    (ap (λ x. t ++ x) (sym (take-append-drop h.0 u)) ∙ sym (append_assoc t (take h.0 u) (drop h.0 u)))

-- a prefix of the first of two texts
pub prefix_first : (before now : Option (List ℕ)) (t u : List ℕ) → AppendsPrefix before now t → AppendsPrefix before now (t ++ u)
prefix_first before now t u h =
    prefix_of before now (t ++ u) (take h.0 t) (drop h.0 t ++ u) h.1
    (ap (λ x. x ++ u) (sym (take-append-drop h.0 t)) ∙ append_assoc (take h.0 t) (drop h.0 t) u)

-- Reports.

pub refused_reports : {State : Type 0} (holds : State → Type 0) (e : ScriptFault) (line : ℕ) (before now : Option (List ℕ)) → Refuses e line before now →
    Reports holds (Err e) before now (stopped line)
refused_reports holds (faults.Line n) line before now h = (ap Stopped (sym h.0), h.1)
refused_reports holds faults.Read line before now h = absurd h
refused_reports holds faults.Write line before now h = h
refused_reports holds faults.Memory line before now h = subst (λ x. AppendsPrefix before x (stopped_text line)) (sym h) (unwritten before (stopped_text line))

-- the last line
last_fault : {State : Type 0} (holds : State → Type 0) (e : ScriptFault) (before now : Option (List ℕ)) (o : Outcome State) → IsNoLine e → AppendsPrefix before now o.text →
    Reports holds (Err e) before now o
last_fault holds (faults.Line n) before now o plain h = absurd plain
last_fault holds faults.Read before now o plain h = h
last_fault holds faults.Write before now o plain h = h
last_fault holds faults.Memory before now o plain h = h

pub last_written : {State Event : Type 0} (holds : State → Type 0) (rules : Rules State Event) (done : ℕ) (s : State) (r : Result Unit ScriptFault) (before now : Option (List ℕ)) → holds s →
    Writes r before now (rules.last done s) → Reports holds r before now (whole rules done s)
last_written holds rules done s (Ok u) before now there h = (there, h)
last_written holds rules done s (Err e) before now there h = last_fault holds e before now (whole rules done s) h.0 h.1

-- what is reported after a text that was written
behind_reports : {State : Type 0} (holds : State → Type 0) (r : Result Unit ScriptFault) (before mid now : Option (List ℕ)) (t : List ℕ) (o : Outcome State) →
    Appends before mid t → Reports holds r mid now o → Reports holds r before now (behind t o)
behind_reports holds (Ok u) before mid now t o a h = (h.0, Appends-trans before mid now t o.text a h.1)
behind_reports holds (Err (faults.Line n)) before mid now t o a h = (h.0, Appends-trans before mid now t o.text a h.1)
behind_reports holds (Err faults.Read) before mid now t o a h = prefix_behind before mid now t o.text a h
behind_reports holds (Err faults.Write) before mid now t o a h = prefix_behind before mid now t o.text a h
behind_reports holds (Err faults.Memory) before mid now t o a h = prefix_behind before mid now t o.text a h

-- what is reported of the lines that are left
rest_reports : {State Event : Type 0} (holds after : State → Type 0) (rules : Rules State Event) (done first : ℕ) (before mid now : Option (List ℕ)) (ls : List (List ℕ)) (o : Outcome State)
    (r : Result Unit ScriptFault) (g : Goes holds rules done first before mid ls o) → Reports after r mid now (play_from rules done (first + done) g.state ls) → Reports after r before now o
rest_reports holds after rules done first before mid now ls o r g h =
    subst (Reports after r before now) g.goes (behind_reports after r before mid now g.written (play_from rules done (first + done) g.state ls) g.wrote h)

-- The next line.

line_played : {State Event : Type 0} (r : Rules State Event) (done line : ℕ) (s : State) (l : List ℕ) (ls : List (List ℕ)) (said : Option (Option Event)) → read_line r done l ≡ said →
    with_read r done line s (λ t. play_from r (done + 1) (line + 1) t ls) ls said ≡ play_from r done line s (l ∷ ls)
unfolding play_from
line_played r done line s l ls said e = ap (with_read r done line s (λ t. play_from r (done + 1) (line + 1) t ls) ls) (sym e)

-- a script stops at the line that is next
pub stops_reports : {State Event : Type 0} (holds after : State → Type 0) (rules : Rules State Event) (done first : ℕ) (before mid now : Option (List ℕ)) (bytes : List ℕ)
    (o : Outcome State) (e : ScriptFault) → ((line : ℕ) (s : State) → play_from rules done line s (lines_of bytes) ≡ stopped line) →
    Goes holds rules done first before mid (lines_of bytes) o → Refuses e (first + done) mid now → Reports after (Err e) before now o
stops_reports holds after rules done first before mid now bytes o e stops g h =
    rest_reports holds after rules done first before mid now (lines_of bytes) o (Err e) g
    (subst (Reports after (Err e) mid now) (sym (stops (first + done) g.state)) (refused_reports after e (first + done) mid now h))

-- if `end` is missing
pub missing_stops : {State Event : Type 0} (rules : Rules State Event) (done : ℕ) (bytes : List ℕ) → bytes ≡ [] → (line : ℕ) (s : State) →
    play_from rules done line s (lines_of bytes) ≡ stopped line
unfolding play_from
missing_stops rules done bytes none line s = ap (λ x. play_from rules done line s (lines_of x)) none

-- the lines that are left begin with this one
pub record NextLine {State Event : Type 0} (holds : State → Type 0) (rules : Rules State Event) (done first : ℕ) (before mid : Option (List ℕ)) (line after : List ℕ)
    (o : Outcome State) : Type 0 where
  pub goes : Goes holds rules done first before mid (line ∷ lines_of after) o

pub next_line : {State Event : Type 0} (holds : State → Type 0) (rules : Rules State Event) (done first : ℕ) (before mid : Option (List ℕ)) (bytes line after : List ℕ) (o : Outcome State) →
    lines_of bytes ≡ line ∷ lines_of after → Goes holds rules done first before mid (lines_of bytes) o → NextLine holds rules done first before mid line after o
next_line holds rules done first before mid bytes line after o e g = record { goes = subst (λ x. Goes holds rules done first before mid x o) e g }

-- if a line is malformed
pub malformed_stops : {State Event : Type 0} (rules : Rules State Event) (done : ℕ) (l : List ℕ) (ls all : List (List ℕ)) → all ≡ l ∷ ls → read_line rules done l ≡ None →
    (line : ℕ) (s : State) → play_from rules done line s all ≡ stopped line
malformed_stops rules done l ls all are none line s =
    ap (play_from rules done line s) are ∙ sym (line_played rules done line s l ls None none)

-- a line that is too long
pub long_is_malformed : {State Event : Type 0} (rules : Rules State Event) (done : ℕ) (l : List ℕ) → 256 < length l → read_line rules done l ≡ None
unfolding read_line
long_is_malformed rules done l h = ap (λ t. if t then None else short_line done l (rules.event (split l))) (lt-ltb 256 (length l) h)

-- the line `end`
pub end_reports : {State Event : Type 0} (holds after : State → Type 0) (rules : Rules State Event) (done first : ℕ) (before mid now : Option (List ℕ)) (line rest : List ℕ)
    (o : Outcome State) (r : Result Unit ScriptFault) → read_line rules done line ≡ Some None → (g : NextLine holds rules done first before mid line rest o) →
    Reports after r mid now (ended rules done (first + done) g.goes.state (lines_of rest)) → Reports after r before now o
end_reports holds after rules done first before mid now line rest o r none g h =
    rest_reports holds after rules done first before mid now (line ∷ lines_of rest) o r g.goes
    (subst (Reports after r mid now) (line_played rules done (first + done) g.goes.state line (lines_of rest) (Some None) none) h)

-- lack of memory at a line
pub memory_reports : {State Event : Type 0} (holds after : State → Type 0) (rules : Rules State Event) (done first : ℕ) (before mid : Option (List ℕ)) (ls : List (List ℕ))
    (o : Outcome State) → Goes holds rules done first before mid ls o → Reports after (Err faults.Memory) before mid o
memory_reports holds after rules done first before mid ls o g =
    rest_reports holds after rules done first before mid mid ls o (Err faults.Memory) g (unwritten mid _)

-- a fault at an event's answers
cut_reports : {State : Type 0} (after : State → Type 0) (e : ScriptFault) (mid now : Option (List ℕ)) (t : List ℕ) (o : Outcome State) →
    IsNoLine e → AppendsPrefix mid now t → Reports after (Err e) mid now (behind t o)
cut_reports after (faults.Line n) mid now t o plain h = absurd plain
cut_reports after faults.Read mid now t o plain h = prefix_first mid now t o.text h
cut_reports after faults.Write mid now t o plain h = prefix_first mid now t o.text h
cut_reports after faults.Memory mid now t o plain h = prefix_first mid now t o.text h

pub event_reports : {State Event : Type 0} (holds after : State → Type 0) (rules : Rules State Event) (done first : ℕ) (before mid now : Option (List ℕ)) (line rest : List ℕ)
    (o : Outcome State) (event : Event) (e : ScriptFault) → read_line rules done line ≡ Some (Some event) → (g : NextLine holds rules done first before mid line rest o) → IsNoLine e →
    AppendsPrefix mid now (answer_lines (done + 1) (rules.answers g.goes.state event)) → Reports after (Err e) before now o
event_reports holds after rules done first before mid now line rest o event e is g plain h =
    rest_reports holds after rules done first before mid now (line ∷ lines_of rest) o (Err e) g.goes
    (subst (Reports after (Err e) mid now) (line_played rules done (first + done) g.goes.state line (lines_of rest) (Some (Some event)) is)
    (cut_reports after e mid now (answer_lines (done + 1) (rules.answers g.goes.state event)) _ plain h))

behind_both : {State : Type 0} (t u : List ℕ) (o : Outcome State) → behind (t ++ u) o ≡ behind t (behind u o)
behind_both t u o = ap (λ x. record { text = x; ending = o.ending }) (append_assoc t u o.text)

-- an event was answered
pub one_more : {State Event : Type 0} (holds after : State → Type 0) (rules : Rules State Event) (done first : ℕ) (before mid now : Option (List ℕ)) (line rest : List ℕ)
    (o : Outcome State) (event : Event) → read_line rules done line ≡ Some (Some event) → (g : NextLine holds rules done first before mid line rest o) →
    Appends mid now (answer_lines (done + 1) (rules.answers g.goes.state event)) → after (rules.next g.goes.state event) →
    Goes after rules (done + 1) first before now (lines_of rest) o
one_more holds after rules done first before mid now line rest o event is g h there =
    let s = g.goes.state in
    let t = answer_lines (done + 1) (rules.answers s event) in
    let number : first + (done + 1) ≡ first + done + 1 = omega arith in
    record {
      state = rules.next s event;
      stands = there;
      written = g.goes.written ++ t;
      wrote = Appends-trans before mid now g.goes.written t g.goes.wrote h;
      goes =
          ap (λ n. behind (g.goes.written ++ t) (play_from rules (done + 1) n (rules.next s event) (lines_of rest))) number
          ∙ behind_both g.goes.written t (play_from rules (done + 1) (first + done + 1) (rules.next s event) (lines_of rest))
          ∙ ap (behind g.goes.written) (line_played rules done (first + done) s line (lines_of rest) (Some (Some event)) is)
          ∙ g.goes.goes;
    }

-- All that a source held.

-- First lines.

head_played : {State Event : Type 0} (head : List (List ℕ) → Result State Fault) (rules : Rules State Event) (bytes line : List ℕ) (ls : List (List ℕ)) (first : Option State) →
    lines_of bytes ≡ line ∷ ls → first_line head line ≡ first → begun rules ls first ≡ headed_lines head rules (lines_of bytes)
unfolding headed_lines
head_played head rules bytes line ls first e is = ap (begun rules ls) (sym is) ∙ ap (headed_lines head rules) (sym e)

-- if there is none
pub no_head_stops : {State Event : Type 0} (head : List (List ℕ) → Result State Fault) (rules : Rules State Event) (bytes : List ℕ) → bytes ≡ [] →
    headed_lines head rules (lines_of bytes) ≡ stopped 1
unfolding headed_lines
no_head_stops head rules bytes none = ap (λ x. headed_lines head rules (lines_of x)) none

-- if it is malformed
pub bad_head_stops : {State Event : Type 0} (head : List (List ℕ) → Result State Fault) (rules : Rules State Event) (bytes line : List ℕ) (ls : List (List ℕ)) →
    lines_of bytes ≡ line ∷ ls → first_line head line ≡ None → headed_lines head rules (lines_of bytes) ≡ stopped 1
bad_head_stops head rules bytes line ls e none = sym (head_played head rules bytes line ls None e none)

pub long_head_is_malformed : {State : Type 0} (head : List (List ℕ) → Result State Fault) (l : List ℕ) → 256 < length l → first_line head l ≡ None
unfolding first_line
long_head_is_malformed head l h = ap (λ t. if t then None else first_of (head (split l))) (lt-ltb 256 (length l) h)

pub head_stops_reports : {State Event : Type 0} (holds : State → Type 0) (head : List (List ℕ) → Result State Fault) (rules : Rules State Event) (before now : Option (List ℕ)) (bytes : List ℕ)
    (e : ScriptFault) → headed_lines head rules (lines_of bytes) ≡ stopped 1 → Refuses e 1 before now → Reports holds (Err e) before now (headed_lines head rules (lines_of bytes))
head_stops_reports holds head rules before now bytes e stops h = subst (Reports holds (Err e) before now) (sym stops) (refused_reports holds e 1 before now h)

weaker_ending : {State : Type 0} (holds after : State → Type 0) (ending : Ending State) → ((s : State) → holds s → after s) → IsWhole holds ending → IsWhole after ending
weaker_ending holds after (Whole s) f h = f s h
weaker_ending holds after (Stopped n) f h = absurd h

-- of a state of which less is known
pub weaker : {State : Type 0} (holds after : State → Type 0) (r : Result Unit ScriptFault) (before now : Option (List ℕ)) (o : Outcome State) →
    ((s : State) → holds s → after s) → Reports holds r before now o → Reports after r before now o
weaker holds after (Ok u) before now o f h = (weaker_ending holds after o.ending f h.0, h.1)
weaker holds after (Err (faults.Line n)) before now o f h = h
weaker holds after (Err faults.Read) before now o f h = h
weaker holds after (Err faults.Write) before now o f h = h
weaker holds after (Err faults.Memory) before now o f h = h

pub head_reports : {State Event : Type 0} (holds : State → Type 0) (head : List (List ℕ) → Result State Fault) (rules : Rules State Event) (before now : Option (List ℕ))
    (bytes line after : List ℕ) (s : State) (r : Result Unit ScriptFault) → lines_of bytes ≡ line ∷ lines_of after → first_line head line ≡ Some s →
    Reports holds r before now (play_from rules 0 2 s (lines_of after)) → Reports (λ s. ⊤) r before now (headed_lines head rules (lines_of bytes))
head_reports holds head rules before now bytes line after s r is first h =
    subst (Reports (λ s. ⊤) r before now) (head_played head rules bytes line (lines_of after) (Some s) is first) (weaker holds (λ s. ⊤) r before now _ (λ s k. tt) h)

-- Bytes of which some may be known.

known_left : (left : Option (List ℕ)) (P : List ℕ → Type 0) → ((bytes : List ℕ) → prepend_known [] left ≡ Some bytes → P bytes) → IfSome left P
known_left None P f = tt
known_left (Some bytes) P f = f bytes refl

-- nothing is held at first, so the bytes ahead are those that the source has left
pub if_known : (left : Option (List ℕ)) (held : List ℕ) (P : List ℕ → Type 0) → held ≡ [] → ((bytes : List ℕ) → prepend_known held left ≡ Some bytes → P bytes) → IfSome left P
if_known left held P empty f = known_left left P (λ bytes known. f bytes (ap (λ x. prepend_known x left) empty ∙ known))

-- if a call went well, a fact that holds anyway
pub always : {A E : Type 0} (r : Result A E) (P : Type 0) → P → OnOk r P
always (Ok x) P p = p
always (Err e) P p = tt

-- The bytes ahead.

-- the line that is read next
pub read_on : {State Event : Type 0} (r : Rules State Event) (done : ℕ) (bytes held now : List ℕ) (left : Option (List ℕ)) (n : ℕ) (line : List ℕ) (result : Result (Option Event) Stop) →
    IsLine bytes held left n → now ≡ drop (n + 1) held → line ≡ take n held → IsRead result (read_line r done line) → ReadsOn r done bytes (prepend_known now left) result
read_on r done bytes held now left n line (Ok said) l now_is line_is h = record {
  line = line;
  rest = l.rest;
  known = ap (λ x. prepend_known x left) now_is ∙ l.known;
  lines = l.lines ∙ ap (λ x. x ∷ lines_of l.rest) (sym line_is);
  read_so = h;
}
read_on r done bytes held now left n line (Err stops.Malformed) l now_is line_is h =
    malformed_stops r done line (lines_of l.rest) (lines_of bytes) (l.lines ∙ ap (λ x. x ∷ lines_of l.rest) (sym line_is)) h
read_on r done bytes held now left n line (Err stops.Read) l now_is line_is h = absurd h
read_on r done bytes held now left n line (Err stops.Memory) l now_is line_is h = tt

-- none is read
pub stop_on : {State Event : Type 0} (r : Rules State Event) (done : ℕ) (bytes held : List ℕ) (left ahead : Option (List ℕ)) (s : Stop) → Finds bytes held left (Err s) →
    ReadsOn {State = State} {Event = Event} r done bytes ahead (Err s)
stop_on r done bytes held left ahead stops.Malformed h = malformed_stops r done h.line h.others (lines_of bytes) h.lines (long_is_malformed r done h.line h.long)
stop_on r done bytes held left ahead stops.Read h = tt
stop_on r done bytes held left ahead stops.Memory h = tt

-- the first line, which begins a script
pub head_on : {State Event Y : Type 0} (stands : State → Y → Type 0) (head : List (List ℕ) → Result State Fault) (r : Rules State Event) (bytes held now : List ℕ) (left : Option (List ℕ)) (n : ℕ)
    (line : List ℕ) (result : Result Y Stop) → IsLine bytes held left n → now ≡ drop (n + 1) held → line ≡ take n held → IsBegun stands result (first_line head line) →
    Heads stands head r bytes (prepend_known now left) result
head_on stands head r bytes held now left n line (Ok y) l now_is line_is h = (
  h.0,
  (
    h.1.1,
    record {
      line = line;
      rest = l.rest;
      known = ap (λ x. prepend_known x left) now_is ∙ l.known;
      lines = l.lines ∙ ap (λ x. x ∷ lines_of l.rest) (sym line_is);
      read_so = h.1.0;
    },
  ),
)
head_on stands head r bytes held now left n line (Err stops.Malformed) l now_is line_is h =
    bad_head_stops head r bytes line (lines_of l.rest) (l.lines ∙ ap (λ x. x ∷ lines_of l.rest) (sym line_is)) h
head_on stands head r bytes held now left n line (Err stops.Read) l now_is line_is h = absurd h
head_on stands head r bytes held now left n line (Err stops.Memory) l now_is line_is h = tt

pub head_stop_on : {State Event Y : Type 0} (stands : State → Y → Type 0) (head : List (List ℕ) → Result State Fault) (r : Rules State Event) (bytes held : List ℕ) (left ahead : Option (List ℕ))
    (s : Stop) → Finds bytes held left (Err s) → Heads {State = State} {Event = Event} {Y = Y} stands head r bytes ahead (Err s)
head_stop_on stands head r bytes held left ahead stops.Malformed h = bad_head_stops head r bytes h.line h.others h.lines (long_head_is_malformed head h.line h.long)
head_stop_on stands head r bytes held left ahead stops.Read h = tt
head_stop_on stands head r bytes held left ahead stops.Memory h = tt

-- nothing follows the line `end`
pub nothing_behind : {State Event : Type 0} (holds : State → Type 0) (rules : Rules State Event) (done line : ℕ) (s : State) (r : Result Unit ScriptFault) (before now : Option (List ℕ)) (bytes : List ℕ) →
    bytes ≡ [] → holds s → Writes r before now (rules.last done s) → Reports holds r before now (ended rules done line s (lines_of bytes))
nothing_behind holds rules done line s r before now bytes none there h =
    subst (λ x. Reports holds r before now (ended rules done line s (lines_of x))) (sym none) (last_written holds rules done s r before now there h)

-- a line is
pub more_behind : {State Event : Type 0} (holds : State → Type 0) (rules : Rules State Event) (done line : ℕ) (s : State) (e : ScriptFault) (before now : Option (List ℕ)) (all : List (List ℕ))
    (l : List ℕ) (ls : List (List ℕ)) → all ≡ l ∷ ls → Refuses e (line + 1) before now → Reports holds (Err e) before now (ended rules done line s all)
more_behind holds rules done line s e before now all l ls are h =
    subst (λ x. Reports holds (Err e) before now (ended rules done line s x)) (sym are) (refused_reports holds e (line + 1) before now h)

-- no line was read yet
pub starts_ahead : {State Event : Type 0} (holds : State → Type 0) (rules : Rules State Event) (first : ℕ) (before ahead : Option (List ℕ)) (bytes : List ℕ) (s : State) →
    holds s → ahead ≡ Some bytes → GoesAhead holds rules 0 first before before ahead (play_from rules 0 first s (lines_of bytes))
starts_ahead holds rules first before ahead bytes s there known =
    let number : first + 0 ≡ first = omega arith in
    record {
      rest = bytes;
      known = known;
      goes = record {
        state = s;
        stands = there;
        written = [];
        wrote = Appends-nil before;
        goes = ap (λ n. play_from rules 0 n s (lines_of bytes)) number;
      };
    }
