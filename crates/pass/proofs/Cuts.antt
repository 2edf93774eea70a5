-- The parts that a trailer points back over, joined again, are the bytes that they were cut from, and have the lengths
-- that the trailer tells.
use Rattle.std.proofs.Common.{◌≡◌, ℕ, ◌-◌, ◌<◌, ◌≤◌, Bool, true, false, cond, leb, List, [], ◌++◌, length, get_or, take, drop, IfErr, Ok, Err, Result, sym, refl, ap, ◌∙◌, append_assoc, arith, MatchResult}
use Rattle.std.proofs.lemmas.List.{length-take, length-drop, take-append-drop, take_all, drop_all}
use Rattle.std.proofs.lemmas.Bool.{cond-true, le-leb, leb-true, leb-false}
use Rattle.wire.specs.declared.fault.Cause.{Cause}
use Rattle.wire.specs.declared.fault.Cause.TheVariants.{BadLength, Overrun}
use Rattle.wire.specs.Faults.{cause_number}
use Rattle.wire.specs.declared.kind.Kind.TheVariants.{Idle}
use Rattle.pass.specs.declared.trailer.Trailer.{Trailer}
use Rattle.pass.specs.Layout.{Parts, lengths, trailer_bytes, span, within_limits, encoded, Behind, Refusal, bad_length, overrun}
use Rattle.pass.specs.Reading.{trailer_of, Cut, parts_at, cut_at, checked, locate, last_of}
use Rattle.pass.proofs.Trailers.{Ends, trailer_read}

-- the lengths of the cut parts are the trailer's
pub same_lengths : (t : Trailer) (ps : List ℕ) → length ps ≡ span t → lengths (parts_at t ps) ≡ t
same_lengths t ps h =
    let n : length (take t.nonce ps) ≡ t.nonce = simp length-take (omega arith) in
    let e : length (take t.header (drop t.nonce ps)) ≡ t.header = simp (length-take, length-drop) (omega arith) in
    let b : length (take t.body (drop t.header (drop t.nonce ps))) ≡ t.body =
    simp (length-take, length-drop) (omega arith) in
    let g : length (drop t.body (drop t.header (drop t.nonce ps))) ≡ t.tag = simp length-drop (omega arith) in
    let same : lengths (parts_at t ps)
    ≡ record { kind = t.kind; nonce = t.nonce; tag = t.tag; header = t.header; body = t.body } =
    cc in
    same

rejoin : (n : ℕ) (xs ys : List ℕ) → take n xs ++ (drop n xs ++ ys) ≡ xs ++ ys
rejoin n xs ys = sym (append_assoc (take n xs) (drop n xs) ys) ∙ ap (λ zs. zs ++ ys) (take-append-drop n xs)

-- the cut parts joined, and the trailer
encoded_parts : (t : Trailer) (ps : List ℕ) → length ps ≡ span t → encoded (parts_at t ps) ≡ ps ++ trailer_bytes t
encoded_parts t ps h =
    let p = parts_at t ps in
    let end = trailer_bytes (lengths p) in
    let second = drop t.nonce ps in
    let third = drop t.header second in
    ap (λ xs. p.nonce ++ (p.header ++ xs)) (rejoin t.body third end)
    ∙ ap (λ xs. p.nonce ++ xs) (rejoin t.header second end)
    ∙ rejoin t.nonce ps end
    ∙ ap (λ u. ps ++ trailer_bytes u) (same_lengths t ps h)

-- a lawful frame stands behind what the cut leaves
behind : (bs : List ℕ) (t : Trailer)
    → Ends bs t
    → within_limits t ≡ true
    → span t ≤ length (take (length bs - 8) bs)
    → Behind bs (cut_at t (take (length bs - 8) bs)).rest (cut_at t (take (length bs - 8) bs)).parts
behind bs t e w s =
    let before = take (length bs - 8) bs in
    let n = length before - span t in
    let ps = drop n before in
    let h : length ps ≡ span t = simp length-drop (omega arith) in
    record {
      joined = e.bytes
          ∙ ap (λ xs. xs ++ trailer_bytes t) (sym (take-append-drop n before))
          ∙ append_assoc (take n before) ps (trailer_bytes t)
          ∙ ap (λ xs. take n before ++ xs) (sym (encoded_parts t ps h));
      lawful = record {
        nonce = omega (arith, e.nonce, ap (λ u. u.nonce) (same_lengths t ps h));
        limits = ap within_limits (same_lengths t ps h) ∙ w;
      };
    }

-- what passes the checks is the cut at the trailer that was read
pub accepted : (bs : List ℕ) (t : Trailer)
    → trailer_of bs ≡ Ok t
    → within_limits t ≡ true
    → span t ≤ length (take (length bs - 8) bs)
    → last_of bs ≡ Ok (cut_at t (take (length bs - 8) bs))
unfolding last_of
accepted bs t e w s =
    let before = take (length bs - 8) bs in
    ap (locate (length bs))
    (ap (checked bs) e
    ∙ cond-true (within_limits t) _ _ w
    ∙ cond-true (leb (span t) (length before)) _ _ (le-leb (span t) (length before) s))

-- what a cut of the definition says of the bytes
abbrev pub There : List ℕ → Cut → Type 0
There bs cut = Behind bs cut.rest cut.parts

by_limits : (bs : List ℕ) (t : Trailer) (within fits : Bool)
    → Ends bs t
    → within_limits t ≡ within
    → leb (span t) (length (take (length bs - 8) bs)) ≡ fits
    → MatchResult
    (cond within (cond fits (Ok (cut_at t (take (length bs - 8) bs))) (Err Overrun)) (Err BadLength))
    (There bs)
    (λ c. Refusal bs (cause_number c))
by_limits bs t false _ e w f = bad_length (take (length bs - 8) bs) t e.bytes w
by_limits bs t true false e w f =
    overrun (take (length bs - 8) bs) t e.bytes w (leb-false (span t) (length (take (length bs - 8) bs)) f)
by_limits bs t true true e w f = behind bs t e w (leb-true (span t) (length (take (length bs - 8) bs)) f)

by_trailer : (bs : List ℕ) (trailer : Result Trailer Cause)
    → MatchResult trailer (Ends bs) (λ c. Refusal bs (cause_number c))
    → MatchResult (checked bs trailer) (There bs) (λ c. Refusal bs (cause_number c))
by_trailer bs (Err c) h = h
by_trailer bs (Ok t) h = by_limits bs t (within_limits t) (leb (span t) (length (take (length bs - 8) bs))) h refl refl

by_place : (bs : List ℕ) (n : ℕ) (found : Result Cut Cause)
    → MatchResult found (There bs) (λ c. Refusal bs (cause_number c))
    → MatchResult (locate n found) (There bs) (λ e. Refusal bs (cause_number e.cause))
by_place bs n (Err c) h = h
by_place bs n (Ok cut) h = h

-- the frame that ends some bytes, by the definition, is there, and else the check applies whose number is told
pub last_read : (bs : List ℕ)
    → ((i : ℕ) → get_or bs i 0 < 256)
    → MatchResult (last_of bs) (There bs) (λ e. Refusal bs (cause_number e.cause))
unfolding last_of
last_read bs small = by_place bs (length bs) _ (by_trailer bs (trailer_of bs) (trailer_read bs small))

-- a refusal tells the trailer's place
pub refused_at : (bs : List ℕ) → IfErr (last_of bs) (λ e. e.place ≡ length bs - 8)
unfolding last_of
refused_at bs = at (length bs) (checked bs (trailer_of bs))
  where
    at : (n : ℕ) (found : Result Cut Cause) → IfErr (locate n found) (λ e. e.place ≡ n - 8)
    at n (Ok c) = tt
    at n (Err c) = refl

-- an idle frame is all fill
pub idle_parts : (t : Trailer) (ps : List ℕ)
    → t.kind ≡ Idle
    → within_limits t ≡ true
    → length ps ≡ span t
    → ◌≡◌ {A = Parts} (record { kind = Idle; nonce = []; header = []; body = ps; tag = [] }) (parts_at t ps)
idle_parts t ps k w h = grind (arith, take_all, drop_all)
