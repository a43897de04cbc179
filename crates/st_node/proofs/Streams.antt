-- What holds while a link is taken piece by piece, and what is known when that stops.
use Rattle.st_lemmas.proofs.Words
use Words.{◌≡◌, ℕ, zero, suc, ◌+◌, ◌-◌, ◌<◌, ◌≤◌, List, [], ◌∷◌, ◌++◌, length, take, drop, refl, sym, ◌∙◌, ap, subst, arith, append_assoc, Option, Some, None}
use Words.{IfSome, Result, Ok, Err, Stamp}
use Rattle.std.proofs.Common.{append-nil, take-append-drop}
use Rattle.std.specs.Io.KnownBytes.{Appends, Consumes, IsAtEnd, Keeps}
use Rattle.std.proofs.KnownBytes.{Consumes-trans, Consumes-kept, Consumes-nil, Appends-nil, Appends-trans}
use Rattle.std.proofs.Math.Seq.{take-append_seam}
use Rattle.st_codec.specs.Frames.{Frames, fed, fresh, next, front}
use Rattle.st_link.specs.Prefixes.{AppendsPrefix}
use Rattle.st_node.specs.declared.node.Node.{Node}
use Rattle.st_node.specs.declared.fault.NodeFault.{NodeFault}
use Rattle.st_node.specs.declared.fault.NodeFault.TheVariants as faults
use Rattle.st_node.specs.Runs.{Run, MOST, behind, end_at, node_run, run}
use Rattle.st_node.specs.Service.{AreReadings, Breaks, Carries, GoesOn, IsCutOff, IsCutShort, IsFront, IsHalted, IsHandled, IsIdle, IsTorn, OfReadings, Pieces}
use Rattle.st_node.specs.Service.{Serves, StopsAt, room_for}
use Rattle.st_node.proofs.Reading.{part_few}
use Rattle.st_node.proofs.Runs.{behind_both, fed_nothing, fed_twice, from_both, from_first, idle_ends, some_readings}

-- the run goes on from here, after what was written
abbrev pub Follows : Node → List ℕ → List ℕ → ℕ → Node → Frames → List Stamp → List Stamp → Type 0
Follows old taken written k n f before now = (more : List ℕ) → behind written (run k n now (fed f more)) ≡ node_run old before (taken ++ more)

-- bytes were taken and written, and the run goes on from here
pub record Streams (left_before left_now written_before written_now : Option (List ℕ)) (before now : Option (List Stamp)) (old : Node) (k : ℕ) (n : Node)
    (f : Frames) : Type 0 where
  pub taken : List ℕ
  pub written : List ℕ
  pub took : Consumes left_before left_now taken
  pub wrote : Appends written_before written_now written
  pub goes : Carries before now (Follows old taken written k n f)
  pub idle : IsIdle k f

-- ---- at the beginning

pub idle_from : (k : ℕ) (f : Frames) → 0 < k → next f ≡ (f, None) → IsIdle k f
idle_from zero f some e = absurd (omega arith)
idle_from (suc k) f some e = e

fresh_idle : next fresh ≡ (fresh, None)
unfolding next front
fresh_idle = refl

pub begun : (left written : Option (List ℕ)) (readings : Option (List Stamp)) (n : Node) → Streams left left written written readings readings n MOST n fresh
unfolding MOST
begun left written readings n = record {
  taken = [];
  written = [];
  took = Consumes-nil left;
  wrote = Appends-nil written;
  goes = record { each = λ later are. record { readings = later; are = are; holds = λ more. refl } };
  idle = idle_from MOST fresh (omega arith) fresh_idle;
}

-- ---- how much may come

idle_small : (k : ℕ) (f : Frames) → IsIdle k f → length f.rest ≤ room_for k
idle_small zero f idle = let e : length f.rest ≡ 0 = ap length idle in omega (arith, e)
idle_small (suc k) f idle = let short : length f.rest < 65540 = part_few f f idle in omega (arith, short)

pub room_falls : (k j : ℕ) (f g : Frames) (n : ℕ) → IsIdle k f → IsIdle j g → 0 < n → length f.rest + n + room_for j ≤ length g.rest + room_for k →
    room_for j - length g.rest < room_for k - length f.rest
room_falls k j f g n one two some few = let a = idle_small k f one in let b = idle_small j g two in omega (arith, a, b, some, few)

-- ---- a piece more

piece_goes : (before now later : Option (List Stamp)) (old : Node) (taken written piece out : List ℕ) (k j : ℕ) (n p : Node) (f g : Frames) →
    Carries before now (Follows old taken written k n f) → Carries now later (GoesOn k n (fed f piece) [] j p g out) →
    Carries before later (Follows old (taken ++ piece) (written ++ out) j p g)
piece_goes before now later old taken written piece out k j n p f g one two = record {
  each = λ last are.
      let t = two.each last are in
      let o = one.each t.readings t.are in
      record {
        readings = o.readings;
        are = o.are;
        holds = λ more.
            behind_both written out (run j p last (fed g more))
            ∙ ap (behind written) (t.holds more)
            ∙ ap (λ (h : Frames). behind written (run k n t.readings h)) (fed_twice f piece more)
            ∙ o.holds (piece ++ more)
            ∙ ap (node_run old o.readings) (sym (append_assoc taken piece more));
      };
}

pub piece_more : (left now later w wn wl : Option (List ℕ)) (before mid after : Option (List Stamp)) (old : Node) (piece : List ℕ) (k j : ℕ) (n p : Node)
    (f g : Frames) → Streams left now w wn before mid old k n f → Consumes now later piece → IsHandled k n (fed f piece) mid after wn wl j p g →
    Streams left later w wl before after old j p g
piece_more left now later w wn wl before mid after old piece k j n p f g s took h = record {
  taken = s.taken ++ piece;
  written = s.written ++ h.out;
  took = Consumes-trans left now later s.taken piece s.took took;
  wrote = Appends-trans w wn wl s.written h.out s.wrote h.wrote;
  goes = piece_goes before mid after old s.taken s.written piece h.out k j n p f g s.goes h.goes;
  idle = h.idle;
}

-- ---- what is known

-- the run over what was taken
taken_run : (old : Node) (taken written : List ℕ) (k : ℕ) (n : Node) (f : Frames) (before now : List Stamp) → Follows old taken written k n f before now → IsIdle k f →
    node_run old before taken ≡ record { node = n; out = written; readings = now; stop = end_at f.offset f.rest }
taken_run old taken written k n f before now goes idle =
    ap (node_run old before) (sym (append-nil taken)) ∙ sym (goes []) ∙ ap (λ (h : Frames). behind written (run k n now h)) (fed_nothing f)
    ∙ ap (behind written) (idle_ends k n now f idle)
    ∙ ap (λ (w : List ℕ). record { node = n; out = w; readings = now; stop = end_at f.offset f.rest }) (append-nil written)

-- the bytes of the run over all that comes begin with what was written
front_run : (old : Node) (taken written more : List ℕ) (k : ℕ) (n : Node) (f : Frames) (before now : List Stamp) → Follows old taken written k n f before now →
    (node_run old before (taken ++ more)).out ≡ written ++ (run k n now (fed f more)).out
front_run old taken written more k n f before now goes = ap (λ (r : Run). r.out) (sym (goes more))

-- a prefix of a text was written
prefix_of : (before now : Option (List ℕ)) (whole t rest : List ℕ) → Appends before now t → whole ≡ t ++ rest → AppendsPrefix before now whole
prefix_of before now whole t rest h e = (length t, subst (Appends before now) (sym (ap (take (length t)) e ∙ take-append_seam t rest)) h)

-- a prefix of what comes after a text was written
prefix_more : (w wn wl : Option (List ℕ)) (whole written out rest : List ℕ) → Appends w wn written → AppendsPrefix wn wl out → whole ≡ written ++ (out ++ rest) →
    AppendsPrefix w wl whole
prefix_more w wn wl whole written out rest one two e =
    prefix_of w wl whole (written ++ take two.0 out) (drop two.0 out ++ rest) (Appends-trans w wn wl written (take two.0 out) one two.1)
    (e ∙ ap (λ (x : List ℕ). written ++ (x ++ rest)) (sym (take-append-drop two.0 out))
    ∙ ap (λ (x : List ℕ). written ++ x) (append_assoc (take two.0 out) (drop two.0 out) rest)
    ∙ sym (append_assoc written (take two.0 out) (drop two.0 out ++ rest)))

-- ---- where it stops

-- the whole stream was taken
pub at_end : (result : Result Unit NodeFault) (left now later w wn : Option (List ℕ)) (before mid : Option (List Stamp)) (old : Node) (k : ℕ) (n : Node) (f : Frames) (piece : List ℕ) →
    Streams left now w wn before mid old k n f → Consumes now later piece → piece ≡ [] → IsAtEnd later → result ≡ end_at f.offset f.rest →
    IfSome left (λ bytes. OfReadings before (λ readings. Serves result w wn n mid (node_run old readings bytes)))
at_end result None now later w wn before mid old k n f piece s took empty end is = tt
at_end result (Some bytes) None later w wn before mid old k n f piece s took empty end is = absurd s.took
at_end result (Some bytes) (Some xs) None w wn before mid old k n f piece s took empty end is = absurd took
at_end result (Some bytes) (Some xs) (Some ys) w wn before mid old k n f piece s took empty end is =
    let nothing : xs ≡ [] = took ∙ ap (λ (x : List ℕ). x ++ ys) empty ∙ end in
    let all : bytes ≡ s.taken = s.took ∙ ap (λ (x : List ℕ). s.taken ++ x) nothing ∙ append-nil s.taken in
    from_first before mid (Follows old s.taken s.written k n f) (λ rs. Serves result w wn n mid (node_run old rs bytes)) s.goes
    (λ rs last are goes.
    let whole : node_run old rs bytes ≡ record { node = n; out = s.written; readings = last; stop = end_at f.offset f.rest } =
    ap (node_run old rs) all ∙ taken_run old s.taken s.written k n f rs last goes s.idle in
    serves result f.offset f.rest last (node_run old rs bytes) is whole s.wrote are)
  where
    serves : (result : Result Unit NodeFault) (offset : ℕ) (rest : List ℕ) (last : List Stamp) (r : Run) → result ≡ end_at offset rest →
        r ≡ record { node = n; out = s.written; readings = last; stop = end_at offset rest } → Appends w wn s.written → AreReadings mid last → Serves result w wn n mid r
    serves result offset [] last r is e wrote are =
        subst (λ x. Serves x w wn n mid r) (sym is) (subst (Serves (Ok tt) w wn n mid) (sym e) (refl, refl, wrote, are))
    serves result offset (b ∷ bs) last r is e wrote are =
        subst (λ x. Serves x w wn n mid r) (sym is) (subst (Serves (Err (faults.Cut offset)) w wn n mid) (sym e) (refl, refl, wrote, are))

-- no more is promised about an end
pub end_breaks : (result : Result Unit NodeFault) (left later w wn : Option (List ℕ)) (before now : Option (List Stamp)) (old new : Node) (offset : ℕ) (rest : List ℕ) →
    result ≡ end_at offset rest → OfReadings before (λ readings. Breaks result old new readings now left later w wn)
end_breaks result left later w wn before now old new offset [] is =
    subst (λ x. OfReadings before (λ readings. Breaks x old new readings now left later w wn)) (sym is) (some_readings before)
end_breaks result left later w wn before now old new offset (b ∷ bs) is =
    subst (λ x. OfReadings before (λ readings. Breaks x old new readings now left later w wn)) (sym is) (some_readings before)

-- a read failed
pub cut_off : (left now later w wn : Option (List ℕ)) (before mid : Option (List Stamp)) (old : Node) (k : ℕ) (n : Node) (f : Frames) →
    Streams left now w wn before mid old k n f → Keeps now later → OfReadings before (λ readings. IsCutOff old n readings mid left later w wn)
cut_off left now later w wn before mid old k n f s kept =
    from_first before mid (Follows old s.taken s.written k n f) (λ rs. IsCutOff old n rs mid left later w wn) s.goes
    (λ rs last are goes.
    let is = taken_run old s.taken s.written k n f rs last goes s.idle in
    record {
      taken = s.taken;
      took = Consumes-kept left now later s.taken s.took kept;
      stands = ap (λ (r : Run). r.node) is;
      wrote = subst (Appends w wn) (sym (ap (λ (r : Run). r.out) is)) s.wrote;
      read = subst (AreReadings mid) (sym (ap (λ (r : Run). r.readings) is)) are;
    })

-- a front was written so far
pub so_far : (left now w wn : Option (List ℕ)) (before mid : Option (List Stamp)) (old : Node) (k : ℕ) (n : Node) (f : Frames) →
    Streams left now w wn before mid old k n f →
    IfSome left (λ bytes. OfReadings before (λ readings. AppendsPrefix w wn (node_run old readings bytes).out))
so_far None now w wn before mid old k n f s = tt
so_far (Some bytes) None w wn before mid old k n f s = absurd s.took
so_far (Some bytes) (Some xs) w wn before mid old k n f s =
    from_first before mid (Follows old s.taken s.written k n f) (λ rs. AppendsPrefix w wn (node_run old rs bytes).out) s.goes
    (λ rs now are goes.
    prefix_of w wn (node_run old rs bytes).out s.written (run k n now (fed f xs)).out s.wrote
    (ap (λ (b : List ℕ). (node_run old rs b).out) s.took ∙ front_run old s.taken s.written xs k n f rs now goes))

-- a run that stopped so, and what was written and read of it
abbrev Stopped : NodeFault → Option (List ℕ) → Option (List ℕ) → Node → Option (List Stamp) → Run → Type 0
Stopped stop before now n told r = (r.stop ≡ Err stop) × (r.node ≡ n) × Appends before now r.out × AreReadings told r.readings

-- the run stopped in a piece
stop_run : (old : Node) (taken written piece out more : List ℕ) (k : ℕ) (n p : Node) (f : Frames) (stop : NodeFault) (before now last : List Stamp) →
    Follows old taken written k n f before now → StopsAt k n (fed f piece) [] p out stop now last →
    node_run old before (taken ++ (piece ++ more)) ≡ record { node = p; out = written ++ out; readings = last; stop = Err stop }
stop_run old taken written piece out more k n p f stop before now last goes stops =
    sym (goes (piece ++ more)) ∙ ap (λ (h : Frames). behind written (run k n now h)) (sym (fed_twice f piece more)) ∙ ap (behind written) (sym (stops more))

pub halted : (left now later w wn wl : Option (List ℕ)) (before mid after : Option (List Stamp)) (old : Node) (piece : List ℕ) (k : ℕ) (n p : Node) (f : Frames) (stop : NodeFault) →
    Streams left now w wn before mid old k n f → Consumes now later piece → IsHalted k n (fed f piece) mid after wn wl p stop →
    IfSome left (λ bytes. OfReadings before (λ readings. Stopped stop w wl p after (node_run old readings bytes)))
halted None now later w wn wl before mid after old piece k n p f stop s took h = tt
halted (Some bytes) None later w wn wl before mid after old piece k n p f stop s took h = absurd s.took
halted (Some bytes) (Some xs) None w wn wl before mid after old piece k n p f stop s took h = absurd took
halted (Some bytes) (Some xs) (Some ys) w wn wl before mid after old piece k n p f stop s took h =
    let all : bytes ≡ s.taken ++ (piece ++ ys) = s.took ∙ ap (λ (x : List ℕ). s.taken ++ x) took in
    from_both before mid after (Follows old s.taken s.written k n f) (StopsAt k n (fed f piece) [] p h.out stop)
    (λ rs. Stopped stop w wl p after (node_run old rs bytes)) s.goes h.stops
    (λ rs now last are goes stops.
    let whole : node_run old rs bytes ≡ record { node = p; out = s.written ++ h.out; readings = last; stop = Err stop } =
    ap (node_run old rs) all ∙ stop_run old s.taken s.written piece h.out ys k n p f stop rs now last goes stops in (
      ap (λ (r : Run). r.stop) whole,
      ap (λ (r : Run). r.node) whole,
      subst (Appends w wl) (sym (ap (λ (r : Run). r.out) whole)) (Appends-trans w wn wl s.written h.out s.wrote h.wrote),
      subst (AreReadings after) (sym (ap (λ (r : Run). r.readings) whole)) are,
    ))

-- a write failed
pub torn : (left now later w wn wl : Option (List ℕ)) (before mid after : Option (List Stamp)) (old : Node) (piece : List ℕ) (k : ℕ) (n p : Node) (f : Frames) →
    Streams left now w wn before mid old k n f → Consumes now later piece → IsTorn k n (fed f piece) mid after wn wl p →
    IfSome left (λ bytes. OfReadings before (λ readings. AppendsPrefix w wl (node_run old readings bytes).out))
torn None now later w wn wl before mid after old piece k n p f s took h = tt
torn (Some bytes) None later w wn wl before mid after old piece k n p f s took h = absurd s.took
torn (Some bytes) (Some xs) None w wn wl before mid after old piece k n p f s took h = absurd took
torn (Some bytes) (Some xs) (Some ys) w wn wl before mid after old piece k n p f s took h =
    let all : bytes ≡ s.taken ++ (piece ++ ys) = s.took ∙ ap (λ (x : List ℕ). s.taken ++ x) took in
    from_both before mid after (Follows old s.taken s.written k n f) (IsFront k n (fed f piece) p h.out) (λ rs. AppendsPrefix w wl (node_run old rs bytes).out) s.goes h.front
    (λ rs now last are goes front.
    let more = front.first ys in
    prefix_more w wn wl (node_run old rs bytes).out s.written h.out more.0 s.wrote h.wrote
    (ap (λ (b : List ℕ). (node_run old rs b).out) all ∙ front_run old s.taken s.written (piece ++ ys) k n f rs now goes
    ∙ ap (λ (g : Frames). s.written ++ (run k n now g).out) (sym (fed_twice f piece ys)) ∙ ap (λ (x : List ℕ). s.written ++ x) more.1))

pub cut_short : (left now later w wn wl : Option (List ℕ)) (before mid after : Option (List Stamp)) (old : Node) (piece : List ℕ) (k : ℕ) (n p : Node) (f : Frames) →
    Streams left now w wn before mid old k n f → Consumes now later piece → IsTorn k n (fed f piece) mid after wn wl p →
    OfReadings before (λ readings. IsCutShort old p readings after left later w wl)
cut_short left now later w wn wl before mid after old piece k n p f s took h =
    from_both before mid after (Follows old s.taken s.written k n f) (IsFront k n (fed f piece) p h.out) (λ rs. IsCutShort old p rs after left later w wl) s.goes h.front
    (λ rs ts last are goes front.
    let is : node_run old rs (s.taken ++ piece) ≡ behind s.written (run k n ts (fed f piece)) = sym (goes piece) in
    record {
      taken = s.taken ++ piece;
      took = Consumes-trans left now later s.taken piece s.took took;
      stands = ap (λ (r : Run). r.node) is ∙ front.stands;
      wrote = prefix_more w wn wl (node_run old rs (s.taken ++ piece)).out s.written h.out [] s.wrote h.wrote
          (ap (λ (r : Run). r.out) is ∙ ap (λ (x : List ℕ). s.written ++ x) (front.is ∙ sym (append-nil h.out)));
      read = subst (AreReadings after) (sym (ap (λ (r : Run). r.readings) is ∙ front.read)) are;
    })

-- ---- a piece

-- what a call that went on leaves of a piece is a prefix of its run
pub front_of_going : (before now : Option (List Stamp)) (k j : ℕ) (n p : Node) (f g : Frames) (out : List ℕ) → Carries before now (GoesOn k n f [] j p g out) → IsIdle j g →
    Carries before now (IsFront k n f p out)
front_of_going before now k j n p f g out goes idle = record {
  each = λ last are.
      let o = goes.each last are in
      let is : run k n o.readings f ≡ record { node = p; out = out; readings = last; stop = end_at g.offset g.rest } =
      ap (run k n o.readings) (sym (fed_nothing f)) ∙ sym (o.holds []) ∙ ap (λ (h : Frames). behind out (run j p last h)) (fed_nothing g) ∙ ap (behind out) (idle_ends j p last g idle)
      ∙ ap (λ (w : List ℕ). record { node = p; out = w; readings = last; stop = end_at g.offset g.rest }) (append-nil out) in
      record {
        readings = o.readings;
        are = o.are;
        holds = record {
          stands = ap (λ (r : Run). r.node) is;
          read = ap (λ (r : Run). r.readings) is;
          is = ap (λ (r : Run). r.out) is;
          first = λ more. ((run j p last (fed g more)).out, ap (λ (r : Run). r.out) (sym (o.holds more)));
        };
      };
}

-- so is what a call that stopped leaves
pub front_of_stop : (before now : Option (List Stamp)) (k : ℕ) (n p : Node) (f : Frames) (out : List ℕ) (stop : NodeFault) → Carries before now (StopsAt k n f [] p out stop) →
    Carries before now (IsFront k n f p out)
front_of_stop before now k n p f out stop h = record {
  each = λ last are.
      let o = h.each last are in
      let is : run k n o.readings f ≡ record { node = p; out = out; readings = last; stop = Err stop } = ap (run k n o.readings) (sym (fed_nothing f)) ∙ sym (o.holds []) in
      record {
        readings = o.readings;
        are = o.are;
        holds = record {
          stands = ap (λ (r : Run). r.node) is;
          read = ap (λ (r : Run). r.readings) is;
          is = ap (λ (r : Run). r.out) is;
          first = λ more. ([], ap (λ (r : Run). r.out) (sym (o.holds more)) ∙ sym (append-nil out));
        };
      };
}

-- ---- a call that stopped in a piece

-- the link's bytes by another name
pub written_as : (left now w wn wm : Option (List ℕ)) (before mid : Option (List Stamp)) (old : Node) (k : ℕ) (n : Node) (f : Frames) → wm ≡ wn →
    Streams left now w wn before mid old k n f → Streams left now w wm before mid old k n f
written_as left now w wn wm before mid old k n f e s = subst (λ x. Streams left now w x before mid old k n f) (sym e) s

pub piece_serves : (e : NodeFault) (left now later w wn wl : Option (List ℕ)) (before mid after : Option (List Stamp)) (old : Node) (piece : List ℕ) (k j : ℕ)
    (n p : Node) (f g : Frames) → Streams left now w wn before mid old k n f → Consumes now later piece →
    Pieces (Err e) k n (fed f piece) mid after wn wl j p g →
    IfSome left (λ bytes. OfReadings before (λ readings. Serves (Err e) w wl p after (node_run old readings bytes)))
piece_serves faults.Memory left now later w wn wl before mid after old piece k j n p f g s took h =
    so_far left now w wl before mid old k n f (written_as left now w wn wl before mid old k n f h s)
piece_serves faults.Write left now later w wn wl before mid after old piece k j n p f g s took h = torn left now later w wn wl before mid after old piece k n p f s took h
piece_serves faults.Read left now later w wn wl before mid after old piece k j n p f g s took h = absurd h
piece_serves (faults.Cut at) left now later w wn wl before mid after old piece k j n p f g s took h = absurd h
piece_serves (faults.Frame at r) left now later w wn wl before mid after old piece k j n p f g s took h =
    halted left now later w wn wl before mid after old piece k n p f (faults.Frame at r) s took h
piece_serves faults.TooManyFrames left now later w wn wl before mid after old piece k j n p f g s took h =
    halted left now later w wn wl before mid after old piece k n p f faults.TooManyFrames s took h

pub piece_breaks : (e : NodeFault) (left now later w wn wl : Option (List ℕ)) (before mid after : Option (List Stamp)) (old : Node) (piece : List ℕ) (k j : ℕ)
    (n p : Node) (f g : Frames) → Streams left now w wn before mid old k n f → Consumes now later piece →
    Pieces (Err e) k n (fed f piece) mid after wn wl j p g →
    OfReadings before (λ readings. Breaks (Err e) old p readings after left later w wl)
piece_breaks faults.Memory left now later w wn wl before mid after old piece k j n p f g s took h = some_readings before
piece_breaks faults.Write left now later w wn wl before mid after old piece k j n p f g s took h = cut_short left now later w wn wl before mid after old piece k n p f s took h
piece_breaks faults.Read left now later w wn wl before mid after old piece k j n p f g s took h = absurd h
piece_breaks (faults.Cut at) left now later w wn wl before mid after old piece k j n p f g s took h = absurd h
piece_breaks (faults.Frame at r) left now later w wn wl before mid after old piece k j n p f g s took h = some_readings before
piece_breaks faults.TooManyFrames left now later w wn wl before mid after old piece k j n p f g s took h = some_readings before
