-- How many outputs are of a kind, and what a rule of a client leaves of its counters.
use Rattle.st_lemmas.proofs.Words
use Words.{◌≡◌, ℕ, ◌+◌, ◌≤◌, List, [], ◌∷◌, ◌++◌, Option, Some, None, subst, arith, BlockAt, Command, Message, Note, Output}
use Words.notes
use Words.outputs
use Words.ClientState.{ClientSession}
use Rattle.st_laws_bounds.specs.Counters.Counts.{AsksLow}

-- what an output weighs, by its kind
abbrev pub of_message : Output → ℕ
of_message (outputs.Send m) = 1
of_message o = 0

abbrev pub of_command : Output → ℕ
of_command (outputs.Submit number at what) = 1
of_command o = 0

abbrev pub note_of_change : Note → ℕ
note_of_change (notes.Accepted f p bytes) = 1
note_of_change (notes.Patched f p at bytes) = 1
note_of_change n = 0

abbrev pub of_change : Output → ℕ
of_change (outputs.Note n) = note_of_change n
of_change o = 0

abbrev pub note_of_loss : Note → ℕ
note_of_loss (notes.Lost s life) = 1
note_of_loss n = 0

abbrev pub of_loss : Output → ℕ
of_loss (outputs.Note n) = note_of_loss n
of_loss o = 0

-- whatever raises a counter, except for a message
abbrev pub note_of_rise : Note → ℕ
note_of_rise (notes.Accepted f p bytes) = 1
note_of_rise (notes.Patched f p at bytes) = 1
note_of_rise (notes.Lost s life) = 1
note_of_rise n = 0

abbrev pub of_rise : Output → ℕ
of_rise (outputs.Submit number at what) = 1
of_rise (outputs.Note n) = note_of_rise n
of_rise o = 0

pub note_rises : (n : Note) → note_of_rise n ≤ 1
note_rises (notes.Accepted f p bytes) = omega arith
note_rises (notes.Patched f p at bytes) = omega arith
note_rises (notes.Lost s life) = omega arith
note_rises n = omega arith

note_changes : (n : Note) → note_of_change n ≤ note_of_rise n
note_changes (notes.Accepted f p bytes) = omega arith
note_changes (notes.Patched f p at bytes) = omega arith
note_changes (notes.Lost s life) = omega arith
note_changes n = omega arith

note_loses : (n : Note) → note_of_loss n ≤ note_of_rise n
note_loses (notes.Accepted f p bytes) = omega arith
note_loses (notes.Patched f p at bytes) = omega arith
note_loses (notes.Lost s life) = omega arith
note_loses n = omega arith

command_rises : (o : Output) → of_command o ≤ of_rise o
command_rises (outputs.Submit number at what) = omega arith
command_rises (outputs.Note n) = omega arith
command_rises o = omega arith

change_rises : (o : Output) → of_change o ≤ of_rise o
change_rises (outputs.Submit number at what) = omega arith
change_rises (outputs.Note n) = note_changes n
change_rises o = omega arith

loss_rises : (o : Output) → of_loss o ≤ of_rise o
loss_rises (outputs.Submit number at what) = omega arith
loss_rises (outputs.Note n) = note_loses n
loss_rises o = omega arith

-- what outputs weigh together
abbrev pub weigh : (Output → ℕ) → List Output → ℕ
weigh f [] = 0
weigh f (o ∷ os) = f o + weigh f os

pub weigh_both : (f : Output → ℕ) (os ps : List Output) → weigh f (os ++ ps) ≡ weigh f os + weigh f ps
weigh_both f [] ps = omega arith
weigh_both f (o ∷ os) ps = let z = weigh_both f os ps in omega (arith, z)

weigh_less : (f g : Output → ℕ) → ((o : Output) → f o ≤ g o) → (os : List Output) → weigh f os ≤ weigh g os
weigh_less f g l [] = omega arith
weigh_less f g l (o ∷ os) = let x = l o in let y = weigh_less f g l os in omega (arith, x, y)

-- each kind weighs no more than whatever raises a counter
pub commands_rise : (os : List Output) → weigh of_command os ≤ weigh of_rise os
commands_rise os = weigh_less of_command of_rise command_rises os

pub changes_rise : (os : List Output) → weigh of_change os ≤ weigh of_rise os
changes_rise os = weigh_less of_change of_rise change_rises os

pub losses_rise : (os : List Output) → weigh of_loss os ≤ weigh of_rise os
losses_rise os = weigh_less of_loss of_rise loss_rises os

pub weigh_more : (f : Output → ℕ) (os ps : List Output) → weigh f os ≤ weigh f (os ++ ps)
weigh_more f os ps = let z = weigh_both f os ps in omega (arith, z)

-- Counters of a client at a server are no further than what its outputs weigh, from bounds on.
pub record Low (a b c d next version life : ℕ) (session : Option ClientSession) (out : List Output) : Type 0 where
  pub commands : next ≤ 1 + a + weigh of_command out
  pub versions : version ≤ 1 + b + weigh of_change out
  pub lives : life ≤ 1 + c + weigh of_loss out
  pub requests : AsksLow (1 + d + weigh of_message out) session

-- more outputs, of each kind
pub record Rises (os ps : List Output) : Type 0 where
  pub commands : weigh of_command os ≤ weigh of_command ps
  pub changes : weigh of_change os ≤ weigh of_change ps
  pub losses : weigh of_loss os ≤ weigh of_loss ps
  pub messages : weigh of_message os ≤ weigh of_message ps

pub rises_none : (os : List Output) → Rises os os
rises_none os = record { commands = omega arith; changes = omega arith; losses = omega arith; messages = omega arith }

pub rises_then : (os ps qs : List Output) → Rises os ps → Rises ps qs → Rises os qs
rises_then os ps qs a b =
    let x = a.commands in let y = a.changes in let z = a.losses in let w = a.messages in let e = b.commands in let f = b.changes in let g = b.losses in let h = b.messages in
    record { commands = omega (arith, x, e); changes = omega (arith, y, f); losses = omega (arith, z, g); messages = omega (arith, w, h) }

pub rises_more : (os ps : List Output) → Rises os (os ++ ps)
rises_more os ps = record { commands = weigh_more of_command os ps; changes = weigh_more of_change os ps; losses = weigh_more of_loss os ps; messages = weigh_more of_message os ps }

-- a session that asks no further than this asks no further than more
pub asks_more : (m n : ℕ) (s : Option ClientSession) → m ≤ n → AsksLow m s → AsksLow n s
asks_more m n None l h = tt
asks_more m n (Some s) l h = omega (arith, l, h)

-- What a rule keeps.
pub record Kept (next version life : ℕ) (session : Option ClientSession) (out : List Output) (next2 version2 life2 : ℕ) (session2 : Option ClientSession) (out2 : List Output) : Type 0 where
  pub rises : Rises out out2
  pub low : (a b c d : ℕ) → Low a b c d next version life session out → Low a b c d next2 version2 life2 session2 out2

pub kept_none : (n v l : ℕ) (s : Option ClientSession) (os : List Output) → Kept n v l s os n v l s os
kept_none n v l s os = record { rises = rises_none os; low = λ a b c d h. h }

pub kept_then : (n v l : ℕ) (s : Option ClientSession) (os : List Output) (n2 v2 l2 : ℕ) (s2 : Option ClientSession) (os2 : List Output) (n3 v3 l3 : ℕ) (s3 : Option ClientSession) (os3 : List Output) →
    Kept n v l s os n2 v2 l2 s2 os2 → Kept n2 v2 l2 s2 os2 n3 v3 l3 s3 os3 → Kept n v l s os n3 v3 l3 s3 os3
kept_then n v l s os n2 v2 l2 s2 os2 n3 v3 l3 s3 os3 x y = record { rises = rises_then os os2 os3 x.rises y.rises; low = λ a b c d h. y.low a b c d (x.low a b c d h) }

-- more is said
pub low_more : (a b c d n v l : ℕ) (s : Option ClientSession) (os ps : List Output) → Rises os ps → Low a b c d n v l s os → Low a b c d n v l s ps
low_more a b c d n v l s os ps r h =
    let x = h.commands in let y = h.versions in let z = h.lives in let e = r.commands in let f = r.changes in let g = r.losses in let m = r.messages in
    record {
      commands = omega (arith, x, e);
      versions = omega (arith, y, f);
      lives = omega (arith, z, g);
      requests = asks_more (1 + d + weigh of_message os) (1 + d + weigh of_message ps) s (omega (arith, m)) h.requests;
    }

pub kept_says : (n v l : ℕ) (s : Option ClientSession) (os ps : List Output) → Kept n v l s os n v l s (os ++ ps)
kept_says n v l s os ps = record { rises = rises_more os ps; low = λ a b c d h. low_more a b c d n v l s os (os ++ ps) (rises_more os ps) h }

-- the session is replaced by one that asks no further
pub kept_session : (n v l : ℕ) (s r : Option ClientSession) (os : List Output) → ((m : ℕ) → 1 ≤ m → AsksLow m s → AsksLow m r) → Kept n v l s os n v l r os
kept_session n v l s r os f =
    record {
      rises = rises_none os;
      low = λ a b c d h. record { commands = h.commands; versions = h.versions; lives = h.lives; requests = f (1 + d + weigh of_message os) (omega arith) h.requests };
    }

-- a command more, which is submitted
pub kept_submits : (n v l : ℕ) (s : Option ClientSession) (os : List Output) (number : ℕ) (at : BlockAt) (what : Command) → Kept n v l s os (n + 1) v l s (os ++ outputs.Submit number at what ∷ [])
kept_submits n v l s os number at what =
    record {
      rises = rises_more os (outputs.Submit number at what ∷ []);
      low = λ a b c d h.
          let m = low_more a b c d n v l s os (os ++ outputs.Submit number at what ∷ []) (rises_more os (outputs.Submit number at what ∷ [])) h in
          let x = h.commands in let z = weigh_both of_command os (outputs.Submit number at what ∷ []) in
          record { commands = omega (arith, x, z); versions = m.versions; lives = m.lives; requests = m.requests };
    }

-- a version more, whose change is noted
pub kept_changes : (n v l : ℕ) (s : Option ClientSession) (os : List Output) (x : Note) → note_of_change x ≡ 1 → Kept n v l s os n (v + 1) l s (os ++ outputs.Note x ∷ [])
kept_changes n v l s os x is =
    record {
      rises = rises_more os (outputs.Note x ∷ []);
      low = λ a b c d h.
          let m = low_more a b c d n v l s os (os ++ outputs.Note x ∷ []) (rises_more os (outputs.Note x ∷ [])) h in
          let y = h.versions in let z = weigh_both of_change os (outputs.Note x ∷ []) in
          record { commands = m.commands; versions = omega (arith, y, z, is); lives = m.lives; requests = m.requests };
    }

-- a life more, whose loss was noted, with nothing of the server
pub kept_loses : (n v l : ℕ) (s : Option ClientSession) (os ps : List Output) → Rises os ps → weigh of_loss os + 1 ≤ weigh of_loss ps → Kept n v l s os n 1 (l + 1) None ps
kept_loses n v l s os ps r more =
    record {
      rises = r;
      low = λ a b c d h.
          let m = low_more a b c d n v l s os ps r h in
          let y = h.lives in
          record { commands = m.commands; versions = omega arith; lives = omega (arith, y, more); requests = tt };
    }

-- a request more, which is sent
pub kept_asks : (n v l : ℕ) (s r : Option ClientSession) (os : List Output) (x : Message) → ((m : ℕ) → AsksLow m s → AsksLow (m + 1) r) → Kept n v l s os n v l r (os ++ outputs.Send x ∷ [])
kept_asks n v l s r os x f =
    record {
      rises = rises_more os (outputs.Send x ∷ []);
      low = λ a b c d h.
          let m = low_more a b c d n v l s os (os ++ outputs.Send x ∷ []) (rises_more os (outputs.Send x ∷ [])) h in
          let z = weigh_both of_message os (outputs.Send x ∷ []) in
          let q : 1 + d + weigh of_message os + 1 ≡ 1 + d + weigh of_message (os ++ outputs.Send x ∷ []) = omega (arith, z) in
          record { commands = m.commands; versions = m.versions; lives = m.lives; requests = subst (λ y. AsksLow y r) q (f (1 + d + weigh of_message os) h.requests) };
    }
