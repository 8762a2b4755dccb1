-- The numbers of fields, one by one. Assumes nothing.
use Rattle.std.proofs.Common.{◌≡◌, ℕ, ◌+◌, ◌^◌, ◌<◌, ◌≤◌, ◌⊎◌, cond, eqb, List, [], ◌∷◌, ◌++◌, length, get_or, decimal, sym, refl, ap, ◌∙◌, subst, inl, inr, arith, lit<}
use Rattle.std.proofs.ByRecursion.{All-push}
use Rattle.std.proofs.lemmas.List.{append-nil, append_assoc}
use Rattle.std.proofs.lemmas.List.Sums.{sum_by-append}
use Rattle.std.proofs.lemmas.Fmt.{decimal_is_IsNumeral}
use Rattle.std.proofs.lemmas.Str.Parse.{digit_at}
use Rattle.sheet_lines.specs.Cuts.{Free, marks}
use Rattle.sheet_lines.specs.Tokens.{kind_in, fields_in, Parted, RightCount}
use Rattle.sheet_lines.specs.declared.token.Token.{Token}
use Rattle.sheet_lines.specs.declared.token.Token.TheVariants as token
use Rattle.sheet_lines.proofs.Cutting.{marks_free, marks_cut}
use Rattle.sheet_lines.proofs.Texts.{commas_push}
use Rattle.sheet_lines.specs.Numbers.{Writes}
use Rattle.sheet_lines.specs.Texts.{after_commas}
use Rattle.sheet_lines.specs.declared.fault.Fault.{Fault}
use Rattle.sheet_lines.specs.declared.fault.Refusal.TheVariants as refusal
use Rattle.sheet_reading.specs.Numbers.{Short, Written, NumberFault}

-- of xs the numbers ns were read, and this is left
pub record Progress (xs ns left : List ℕ) : Type 0 where
  pub bytes : xs ≡ after_commas ns ++ left
  pub short : Short ns

pub begun : (xs : List ℕ) → Progress xs [] xs
begun xs = record { bytes = refl; short = tt }

module _ (xs ns left field rest : List ℕ) (p : Progress xs ns left) (split : left ≡ 44 ∷ (field ++ rest)) where
  pub one_number : (n : ℕ) → Writes field n → Progress xs (ns ++ n ∷ []) rest
  one_number n w = record {
    bytes = p.bytes ∙ ap (λ v. after_commas ns ++ v) (split ∙ ap (λ v. 44 ∷ (v ++ rest)) w.0) ∙ sym (append_assoc (after_commas ns) (44 ∷ decimal n) rest) ∙ ap (λ v. v ++ rest) (sym (commas_push ns n));
    short = All-push _ ns n p.short w.1;
  }

  -- the fault of a field that writes none
  pub bad_number : (line : ℕ) (f : Fault) → Free 44 field → (rest ≡ []) ⊎ (get_or rest 0 0 ≡ 44) → ((n : ℕ) → Writes field n → ⊥)
      → f ≡ record { refusal = refusal.BadNumber; line = line; field = length ns + 2 } → NumberFault xs line f
  bad_number line f free ends none is = inr (
    length ns,
    record {
      numbers = ns;
      bad = field;
      others = rest;
      bytes = p.bytes ∙ ap (λ v. after_commas ns ++ v) split;
      many = refl;
      short = p.short;
      one_field = (free, ends);
      no_number = none;
    },
    is,
  )

pub all_read : (xs ns left : List ℕ) → Progress xs ns left → left ≡ [] → Written xs ns
all_read xs ns left p e = (p.bytes ∙ ap (λ v. after_commas ns ++ v) e ∙ append-nil (after_commas ns), p.short)

-- the last field goes to the end
last_field : (field : List ℕ) → ◌≡◌ {A = List ℕ} (44 ∷ field) (44 ∷ (field ++ []))
last_field field = ap (λ v. 44 ∷ v) (sym (append-nil field))

-- a line of one field
module _ (field : List ℕ) where
  pub one_written : (n : ℕ) → Writes field n → Written (44 ∷ field) (n ∷ [])
  one_written n w = all_read (44 ∷ field) (n ∷ []) [] (one_number (44 ∷ field) [] (44 ∷ field) field [] (begun (44 ∷ field)) (last_field field) n w) refl

  pub one_bad : (line : ℕ) (f : Fault) → Free 44 field → ((n : ℕ) → Writes field n → ⊥) → f ≡ record { refusal = refusal.BadNumber; line = line; field = 2 } → NumberFault (44 ∷ field) line f
  one_bad line f free = bad_number (44 ∷ field) [] (44 ∷ field) field [] (begun (44 ∷ field)) (last_field field) line f free (inl refl)

-- a line of three
module _ (a b c : List ℕ) where
  abbrev third : List ℕ
  third = 44 ∷ c

  abbrev second : List ℕ
  second = 44 ∷ (b ++ third)

  abbrev fields : List ℕ
  fields = 44 ∷ (a ++ second)

  module _ (na : ℕ) (wa : Writes a na) where
    after_first : Progress fields (na ∷ []) second
    after_first = one_number fields [] fields a second (begun fields) refl na wa

    module _ (nb : ℕ) (wb : Writes b nb) where
      after_second : Progress fields (na ∷ (nb ∷ [])) third
      after_second = one_number fields (na ∷ []) second b third after_first refl nb wb

      pub three_written : (nc : ℕ) → Writes c nc → Written fields (na ∷ (nb ∷ (nc ∷ [])))
      three_written nc wc = all_read fields (na ∷ (nb ∷ (nc ∷ []))) [] (one_number fields (na ∷ (nb ∷ [])) third c [] after_second (last_field c) nc wc) refl

      pub third_bad : (line : ℕ) (f : Fault) → Free 44 c → ((n : ℕ) → Writes c n → ⊥) → f ≡ record { refusal = refusal.BadNumber; line = line; field = 4 } → NumberFault fields line f
      third_bad line f free = bad_number fields (na ∷ (nb ∷ [])) third c [] after_second (last_field c) line f free (inl refl)

    pub second_bad : (line : ℕ) (f : Fault) → Free 44 b → ((n : ℕ) → Writes b n → ⊥) → f ≡ record { refusal = refusal.BadNumber; line = line; field = 3 } → NumberFault fields line f
    second_bad line f free = bad_number fields (na ∷ []) second b third after_first refl line f free (inr refl)

  pub first_bad : (line : ℕ) (f : Fault) → Free 44 a → ((n : ℕ) → Writes a n → ⊥) → f ≡ record { refusal = refusal.BadNumber; line = line; field = 2 } → NumberFault fields line f
  first_bad line f free = bad_number fields [] fields a second (begun fields) refl line f free (inr refl)

nothing_free : (mark : ℕ) → Free mark []
nothing_free mark k h e = omega (arith, h)

pub marks_append : (mark : ℕ) (xs ys : List ℕ) → marks mark (xs ++ ys) ≡ marks mark xs + marks mark ys
marks_append mark xs ys = sum_by-append (λ y. cond (eqb y mark) 1 0) xs ys

-- no comma and no end of a line stands in a number
pub decimal_marks : (mark : ℕ) → mark < 48 → (n : ℕ) → n < 10 ^ 8 → marks mark (decimal n) ≡ 0
decimal_marks mark low n small =
    let digits = (decimal_is_IsNumeral n (omega (arith, small))).0.1 in
    marks_free mark (decimal n) (λ k h e. let here = digit_at (decimal n) k digits h in omega (arith, here, e, low))

pub written_many : (xs ns : List ℕ) → Written xs ns → marks 44 xs ≡ length ns
written_many xs ns w = ap (marks 44) w.0 ∙ many ns w.1
  where
    many : (ms : List ℕ) → Short ms → marks 44 (after_commas ms) ≡ length ms
    many [] short = refl
    many (m ∷ ms) short = omega (arith, marks_cut 44 [] (decimal m ++ after_commas ms) (nothing_free 44), marks_append 44 (decimal m) (after_commas ms), decimal_marks 44 (lit< tt) m short.0, many ms short.1)

-- how many numbers a token has
pub token_many : (t : Token) → Parted t → RightCount (kind_in t) (marks 44 (44 ∷ fields_in t))
token_many (token.Part number grade cents) p =
    omega (arith, marks_cut 44 [] (number.now ++ (44 ∷ grade.now ++ (44 ∷ cents.now))) (nothing_free 44), marks_cut 44 number.now (grade.now ++ (44 ∷ cents.now)) p.0, marks_cut 44 grade.now cents.now p.1, marks_free 44 cents.now p.2)
token_many (token.Path numbers) p = let one = marks_cut 44 [] numbers.now (nothing_free 44) in (omega arith, omega (arith, p))
token_many (token.Feed number) p = omega (arith, marks_cut 44 [] number.now (nothing_free 44), marks_free 44 number.now p)

pub numbers_many : (t : Token) (ns : List ℕ) → Parted t → Written (44 ∷ fields_in t) ns → RightCount (kind_in t) (length ns)
numbers_many t ns parted w = subst (RightCount (kind_in t)) (written_many (44 ∷ fields_in t) ns w) (token_many t parted)

-- a path has at most 40
pub few_numbers : (numbers ns : List ℕ) → marks 44 numbers < 40 → Written (44 ∷ numbers) ns → length ns ≤ 40
few_numbers numbers ns few w = omega (arith, few, written_many (44 ∷ numbers) ns w, marks_cut 44 [] numbers (nothing_free 44))
