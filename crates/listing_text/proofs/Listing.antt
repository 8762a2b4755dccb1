-- Rows of a listing, one by one. Assumes nothing.
use Rattle.std.proofs.Common.{◌≡◌, ℕ, suc, ◌+◌, ◌<◌, ◌≤◌, List, [], ◌∷◌, ◌++◌, map, length, sym, refl, ap, ◌∙◌, subst, arith}
use Rattle.std.proofs.lemmas.List.{append-nil, append_assoc, map_push, length_push}
use Rattle.sheet.specs.declared.sealed.Sheet.{Sheet}
use Rattle.states.specs.Lists.{In}
use Rattle.calls.specs.Calls.{Said, Step, next_step, run_step, refused_step, figures_step, next_said}
use Rattle.calls.specs.Handing.{handed_out, finished, full, HandsOut}
use Rattle.calls.specs.Histories.{Moment, moment, Led}
use Rattle.calls.specs.Memories.{Memory, lower, upper}
use Rattle.calls.specs.Stations.{Station, station}
use Rattle.calls.specs.declared.answers.Call.{Call}
use Rattle.calls.specs.declared.answers.Call.TheVariants as call
use Rattle.calls.specs.declared.answers.Ending.{Ending}
use Rattle.calls.specs.declared.answers.Ending.TheVariants as ends
use Rattle.calls.specs.declared.answers.Verdict.{Verdict}
use Rattle.calls.proofs.Every.{every_listing}
use Rattle.calls.proofs.Histories.{kept_is, cut_at}
use Rattle.calls.proofs.Invariant.{Lawful}
use Rattle.listing.specs.Listings.{memory_of, station_of, SameStation, LeftBy, Opened}
use Rattle.listing.specs.declared.listing.Listing.{Listing}
use Rattle.listing.proofs.Calling.{station_same, opened_station, same_itself}
use Rattle.listing_text.specs.Outputs.{Due, Lists}
use Rattle.listing_text.specs.Rows.{Row, call_of, last_call, row_line, row_lines, header, end_line}
use Rattle.listing_text.specs.Steps.{Steps, Stops}
use Rattle.listing_text.specs.declared.step.Step.{Step as ListingStep}
use Rattle.structures.specs.declared.structure.Structure.{Ghosts as StructureGhosts}
use Rattle.rankings.specs.declared.ranking.Ranking.{Ghosts as RankingGhosts}

-- the lines of one row more
rows_push : (step : ℕ) (rows : List Row) (r : Row) → row_lines step (rows ++ r ∷ []) ≡ row_lines step rows ++ row_line (step + length rows) r.state r.verdict (lower r.kept) (upper r.kept)
rows_push step [] r = let e : step + 0 ≡ step = omega arith in append-nil _ ∙ ap (λ n. row_line n r.state r.verdict (lower r.kept) (upper r.kept)) (sym e)
rows_push step (q ∷ qs) r =
    let e : suc step + length qs ≡ step + suc (length qs) = omega arith in
    ap (λ v. row_line step q.state q.verdict (lower q.kept) (upper q.kept) ++ v) (rows_push (suc step) qs r ∙ ap (λ n. row_lines (suc step) qs ++ row_line n r.state r.verdict (lower r.kept) (upper r.kept)) e)
    ∙ sym (append_assoc (row_line step q.state q.verdict (lower q.kept) (upper q.kept)) (row_lines (suc step) qs) _)

-- a step of next that answered so is one of next's answers
module _ (w : Station) where
  next_of : {c : Call} {l l' : Memory} {r : Said} {ys : List ℕ} → Step w c l r ys l' → (x : ℕ) (v : Verdict) → r ≡ next_said (handed_out x v) → (ys ≡ x ∷ []) × HandsOut w l x l'
  next_of {l = l} {l' = l'} (next_step (handed_out y u) p) x v e = let same : y ≡ x = cc in (ap (λ z. z ∷ []) same, subst (λ z. HandsOut w l z l') same p.0)
  next_of (next_step finished p) x v e = absurd cc
  next_of (next_step full p) x v e = absurd cc
  next_of (run_step e s r) x v d = absurd cc
  next_of (refused_step h) x v e = absurd cc
  next_of figures_step x v e = absurd cc

  finished_of : {c : Call} {l l' : Memory} {r : Said} {ys : List ℕ} → Step w c l r ys l' → r ≡ next_said finished → (ys ≡ []) × (l.waiting ≡ []) × (l' ≡ l)
  finished_of (next_step (handed_out y u) p) e = absurd cc
  finished_of (next_step finished p) e = (refl, p.0, p.1)
  finished_of (next_step full p) e = absurd cc
  finished_of (run_step e s r) d = absurd cc
  finished_of (refused_step h) e = absurd cc
  finished_of figures_step e = absurd cc

  some_in : (x : ℕ) (xs : List ℕ) → In x xs → 0 < length xs
  some_in x [] inside = absurd inside
  some_in x (y ∷ ys) inside = omega arith

  full_of : {c : Call} {l l' : Memory} {r : Said} {ys : List ℕ} → Step w c l r ys l' → r ≡ next_said full → (ys ≡ []) × (0 < length l.waiting) × (l' ≡ l)
  full_of (next_step (handed_out y u) p) e = absurd cc
  full_of (next_step finished p) e = absurd cc
  full_of {l = l} (next_step full p) e = (refl, some_in p.0.0 l.waiting p.0.1.waits, p.1)
  full_of (run_step e s r) d = absurd cc
  full_of (refused_step h) e = absurd cc
  full_of figures_step e = absurd cc

  -- the last call of a history, at what was kept before it
  last_step : (ms : List Moment) (m : Moment) (l l' : Memory) → Led w ms l → Led w (ms ++ m ∷ []) l' → Step w m.made l m.answer m.handed m.kept
  last_step ms m l l' before led = subst (λ k. Step w m.made k m.answer m.handed m.kept) (kept_is w before) (cut_at w ms m [] refl led).step

module _ {S R K : Type 0} {sg : StructureGhosts S} {rg : RankingGhosts R K} where
  -- calls of next since the listing l was opened handed out states, whose lines stand in out
  pub record Made (most : ℕ) (l : Listing S R K sg rg) (out : List ℕ) : Type 0 where
    pub rows : List Row
    pub left : LeftBy (map call_of rows) l
    pub count : (memory_of l).handed ≡ length rows
    pub few : length rows ≤ most
    pub text : out ≡ header ++ row_lines 1 rows

  pub none_made : (most : ℕ) (l : Listing S R K sg rg) (out : List ℕ) → LeftBy [] l → out ≡ header → Made most l out
  none_made most l out left e = record { rows = []; left = left; count = sym (ap (λ k. k.handed) (kept_is (station_of l) left)); few = omega arith; text = e ∙ sym (append-nil header) }

  stopped : (w : Station) (most : ℕ) (l l' : Listing S R K sg rg) (count : ℕ) (calls : List Moment) (e : Ending) → station_of l' ≡ w → LeftBy calls l → Led w calls (memory_of l)
      → (memory_of l).handed ≡ count → count ≤ most → Stops most l e l' → Led w (calls ++ last_call e (memory_of l')) (memory_of l') × Due most count (memory_of l') e
  stopped w most l l' count calls ends.Reached same left before counted few stops = absurd stops
  stopped w most l l' count calls ends.Finished same left before counted few stops =
      let done = stops calls left in
      let led = subst (λ v. Led v (calls ++ moment call.Next (next_said finished) done.0 (memory_of l') ∷ []) (memory_of l')) same done.1 in
      let next = finished_of w (last_step w calls (moment call.Next (next_said finished) done.0 (memory_of l')) (memory_of l) (memory_of l') before led) refl in
      (subst (λ xs. Led w (calls ++ moment call.Next (next_said finished) xs (memory_of l') ∷ []) (memory_of l')) next.0 led, ap (λ k. k.waiting) next.2 ∙ next.1)
  stopped w most l l' count calls ends.Spent same left before counted few stops =
      let kept : memory_of l' ≡ memory_of l = ap memory_of stops.1 in (
        subst (λ ms. Led w ms (memory_of l')) (sym (append-nil calls)) (subst (λ k. Led w calls k) (sym kept) before),
        (
          (λ none. omega (arith, stops.0.some_wait, ap length none, ap (λ k. length k.waiting) kept)),
          omega (arith, stops.0.all_allowed, counted, few),
        ),
      )
  stopped w most l l' count calls ends.Full same left before counted few stops =
      let done = stops.1 calls left in
      let led = subst (λ v. Led v (calls ++ moment call.Next (next_said full) done.0 (memory_of l') ∷ []) (memory_of l')) same done.1 in
      let next = full_of w (last_step w calls (moment call.Next (next_said full) done.0 (memory_of l')) (memory_of l) (memory_of l') before led) refl in
      let some : 0 < length (memory_of l).waiting = next.1 in (
        subst (λ xs. Led w (calls ++ moment call.Next (next_said full) xs (memory_of l') ∷ []) (memory_of l')) next.0 led,
        (
          (λ none. omega (arith, some, ap length none, ap (λ k. length k.waiting) next.2)),
          omega (arith, stops.0 some, counted),
        ),
      )

  -- one more
  pub one_made : (most : ℕ) (l l' : Listing S R K sg rg) (out out' : List ℕ) (s : ListingStep) → Made most l out → SameStation l l' → Steps most l s l'
      → out' ≡ out ++ row_line s.figures.handed s.handed.state.number s.handed.verdict s.figures.lower s.figures.upper
      → Made most l' out' × ((memory_of l).handed < most) × ((memory_of l').handed ≡ suc (memory_of l).handed)
  one_made most l l' out out' s made same step e =
      let w = station_of l' in
      let rows = made.rows in
      let calls = map call_of rows in
      let r : Row = record { state = s.handed.state.number; verdict = s.handed.verdict; kept = memory_of l' } in
      let before = subst (λ v. Led v calls (memory_of l)) (station_same l l' same) made.left in
      let done = step.hands_on.called calls made.left in
      let m = moment call.Next (next_said (handed_out r.state r.verdict)) done.0 (memory_of l') in
      let next = next_of w (last_step w calls m (memory_of l) (memory_of l') before done.1) r.state r.verdict refl in
      let some : 0 < length (memory_of l).waiting = some_in w r.state (memory_of l).waiting next.1.foremost.waits in
      let room : (memory_of l).handed < most = step.hands_on.not_spent some in
      let number : (memory_of l').handed ≡ 1 + length rows = omega (arith, next.1.handed, made.count) in
      let line = λ (n : ℕ). row_line n r.state r.verdict (lower r.kept) (upper r.kept) in (
        record {
          rows = rows ++ r ∷ [];
          left = subst (λ ms. LeftBy ms l') (ap (λ xs. calls ++ moment call.Next (next_said (handed_out r.state r.verdict)) xs (memory_of l') ∷ []) next.0 ∙ sym (map_push call_of rows r)) done.1;
          count = omega (arith, number, length_push rows r);
          few = omega (arith, room, made.count, length_push rows r);
          text = subst (λ v. out' ≡ out ++ row_line v.handed r.state r.verdict v.lower v.upper) step.figures e
              ∙ ap (λ n. out ++ line n) number
              ∙ ap (λ v. v ++ line (1 + length rows)) made.text
              ∙ append_assoc header (row_lines 1 rows) (line (1 + length rows))
              ∙ ap (λ v. header ++ v) (sym (rows_push 1 rows r));
        },
        room,
        next.1.handed,
      )

  -- and the end
  pub all_made : (most : ℕ) (l l' : Listing S R K sg rg) (out out' : List ℕ) (e : Ending) (w : Station) → station_of l' ≡ w → Lawful w → Made most l out → SameStation l l' → Stops most l e l' → out' ≡ out ++ end_line e → Lists w most out'
  all_made most l l' out out' e w is laws made same stops text =
      let calls = map call_of made.rows in
      let before = subst (λ v. Led v calls (memory_of l)) (station_same l l' same ∙ is) made.left in
      let ended = stopped w most l l' (length made.rows) calls e is made.left before made.count made.few stops in
      record {
        rows = made.rows;
        ending = e;
        left = memory_of l';
        led = ended.0;
        few = made.few;
        due = ended.1;
        law = every_listing w laws ended.0;
        text = text ∙ ap (λ v. v ++ end_line e) made.text ∙ append_assoc header (row_lines 1 made.rows) (end_line e);
      }

  -- the station of a listing that was opened
  pub opened_lists : (s : Sheet) (pile : S) (ranking : R) (l : Listing S R K sg rg) (most : ℕ) (out : List ℕ) → Opened s pile ranking l → Lists (station_of l) most out → Lists (station s (sg.works pile) (rg.outranks ranking s)) most out
  opened_lists s pile ranking l most out opened lists = subst (λ w. Lists w most out) (opened_station s pile ranking l l opened (same_itself l)) lists
