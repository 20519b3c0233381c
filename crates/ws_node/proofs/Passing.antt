-- Nodes in a chain that pass messages on: what each owes of its own ends, and what the law of joined nodes asks of all of them.
use Rattle.std.proofs.Common.{◌≡◌, ℕ, ℤ, ◌≤◌, true, false, List, [], ◌∷◌, ◌++◌, length, Option, refl, ap, subst}
use Rattle.std.specs.Prelude.{All}
use Rattle.std.proofs.lemmas.List.Elements.{All-nil, All-cons}
use Rattle.ws_value.specs.declared.value.Message.{Message}
use Rattle.ws_value.specs.declared.value.Plain.{Plain}
use Rattle.ws_flow.specs.declared.plan.Stage.{Stage}
use Rattle.ws_flow.specs.Chains.{Host, Row, all_stages}
use Rattle.ws_flow.specs.Parts.{Part, Flows}
use Rattle.ws_flow.specs.Plans.{sees_known_chunks}
use Rattle.ws_flow.specs.Rows.{told_by}
use Rattle.ws_flow.specs.Stages.{machines}
use Rattle.ws_flow.specs.Told.{bytes_of, Told, then_told, IsBefore}
use Rattle.ws_joined_laws.specs.Condition.{AreBytes, AreShort, AreInRange, OnwardIf}
use Rattle.ws_joined_laws.specs.Ends.{StopsNear}
use Rattle.ws_joined_laws.specs.Finished.{CausesIf, KeepsNear, NodesTell}
use Rattle.ws_joined_laws.specs.Joined.{Node, members, AreCounted}
use Rattle.ws_joined_laws.specs.Reasons.{reasons_in, Finds, HasCause}
use Rattle.ws_steps.specs.PortHistory.{ends_last}
use Rattle.ws_node_laws.specs.Edges.{goes_down_edge}
use Rattle.ws_node.specs.Messages.{fairly}
use Rattle.ws_node.proofs.FairRows.{IsFairRow, front-fair, fairly-same, sent-fair, fair-bytes}

-- what a node has inside: its stages, what lies in it, and what it finds
pub record Inside : Type 0 where
  pub stages : List Stage
  pub parts : List Part
  pub behind : Told (List ℕ)
  pub finds : Finds

-- a node between two edges, with what it received and what it sent
pub record Between : Type 0 where
  pub inside : Inside
  pub received : List Message
  pub sent : List Message

abbrev pub first_node : Told ℕ → Inside → List Message → Node
first_node taken i sent = record { member = record { stages = i.stages; from = Host taken; parts = i.parts; behind = i.behind; to = Row sent }; finds = i.finds }

abbrev pub node_between : Between → Node
node_between b =
    record { member = record { stages = b.inside.stages; from = Row b.received; parts = b.inside.parts; behind = b.inside.behind; to = Row b.sent }; finds = b.inside.finds }

abbrev pub last_node : Inside → List Message → Told ℕ → Node
last_node i received got = record { member = record { stages = i.stages; from = Row received; parts = i.parts; behind = i.behind; to = Host got }; finds = i.finds }

-- those behind the first one
abbrev pub nodes_on : List Between → Node → List Node
nodes_on [] last = last ∷ []
nodes_on (b ∷ bs) last = node_between b ∷ nodes_on bs last

-- what a node owes of what it sent, where it took these messages fairly
pub record SendsFairly (i : Inside) (came : List Plain) (sent : List Message) : Type 0 where
  pub kinds : All (λ m. goes_down_edge m ≡ true) sent
  pub last : ends_last sent ≡ true
  pub causes : All (HasCause i.finds i.parts came) (reasons_in sent)

-- the first node
pub record Starts (read : Told (List ℕ)) (i : Inside) (sent : List Message) : Type 0 where
  pub flows : Flows (machines i.stages) read i.parts (then_told (told_by sent) i.behind)
  pub pieces : All (λ c. length c ≤ 4096) read.items
  pub sends : SendsFairly i [] sent

-- one between two edges
pub record Passes (b : Between) : Type 0 where
  pub flows : Flows (machines b.inside.stages) (told_by (fairly b.received)) b.inside.parts (then_told (told_by b.sent) b.inside.behind)
  pub sends : SendsFairly b.inside (reasons_in (fairly b.received)) b.sent

-- the last one, whose pipe into the sink was rejected with these reasons
pub record Stops (after : Option ℤ) (i : Inside) (received : List Message) (got : Told ℕ) (last : List Plain) : Type 0 where
  pub went : Told (List ℕ)
  pub flows : Flows (machines i.stages) (told_by (fairly received)) i.parts (then_told went i.behind)
  pub written : IsBefore got (bytes_of went)
  pub near : StopsNear after went.items got.items
  pub causes : All (HasCause i.finds i.parts (reasons_in (fairly received))) last

-- what was sent is what was received and what is left
abbrev pub IsFrontOf : List Message → List Message → Type 0
IsFrontOf received sent = (rest : List Message) × (sent ≡ received ++ rest)

-- each edge has met, from what was sent on to what the last one received
abbrev pub PassOn : List Message → List Between → List Message → Type 0
PassOn sent [] received = IsFrontOf received sent
PassOn sent (b ∷ bs) received = IsFrontOf b.received sent × Passes b × PassOn b.sent bs received

pub passes-fair : (b : Between) → Passes b → IsFairRow b.sent
passes-fair b p = sent-fair b.inside.finds b.inside.parts b.received b.sent p.sends.kinds p.sends.last p.sends.causes

starts-fair : (read : Told (List ℕ)) (i : Inside) (sent : List Message) → Starts read i sent → IsFairRow sent
starts-fair read i sent p = sent-fair i.finds i.parts [] sent p.sends.kinds p.sends.last p.sends.causes

last-fair : (sent : List Message) (bs : List Between) (received : List Message) → IsFairRow sent → PassOn sent bs received → IsFairRow received
last-fair sent [] received h (rest, e) = front-fair sent received rest e h
last-fair sent (b ∷ bs) received h (f, p, on) = last-fair b.sent bs received (passes-fair b p) on

module _ (after : Option ℤ) (t : Inside) (received : List Message) (got : Told ℕ) (last : List Plain) (stops : Stops after t received got last) where
  abbrev end : Node
  end = last_node t received got

  -- it keeps its flow
  near-by : IsFairRow received → AreBytes (Row received) → AreShort (Row received) → KeepsNear after got.items end.member
  near-by h bytes short = record {
    keeps = record {
      came = told_by received;
      went = stops.went;
      is_came = refl;
      is_went = stops.written;
      flows = subst (λ q. Flows (machines t.stages) (told_by q) t.parts (then_told stops.went t.behind)) (fairly-same received h short) stops.flows;
    };
    pieces = tt;
    stops = stops.near;
  }

  onward : (sent : List Message) (bs : List Between) → IsFairRow sent → PassOn sent bs received → OnwardIf (Row sent) (members (nodes_on bs end)) got
  onward sent [] h (rest, e) =
      (received, rest, e, refl, (λ bytes short. ((near-by (front-fair sent received rest e h) bytes short).keeps, tt)), refl)
  onward sent (b ∷ bs) h ((rest, e), p, on) =
      let fair = front-fair sent b.received rest e h in (
        b.received,
        rest,
        e,
        refl,
        (λ bytes short. (
          record {
            came = told_by b.received;
            went = told_by b.sent;
            is_came = refl;
            is_went = refl;
            flows = subst (λ q. Flows (machines b.inside.stages) (told_by q) b.inside.parts (then_told (told_by b.sent) b.inside.behind)) (fairly-same b.received fair short) p.flows;
          },
          fair-bytes b.sent (passes-fair b p),
        )),
        onward b.sent bs (passes-fair b p) on,
      )

  caused : (sent : List Message) (bs : List Between) → IsFairRow sent → PassOn sent bs received → All (CausesIf last) (nodes_on bs end)
  caused sent [] h (rest, e) =
      All-cons (CausesIf last) end [] (λ bytes short.
      subst (λ q. All (HasCause t.finds t.parts (reasons_in q)) last) (fairly-same received (front-fair sent received rest e h) short) stops.causes)
      (All-nil (CausesIf last))
  caused sent (b ∷ bs) h ((rest, e), p, on) =
      All-cons (CausesIf last) (node_between b) (nodes_on bs end) (λ bytes short.
      subst (λ q. All (HasCause b.inside.finds b.inside.parts (reasons_in q)) (reasons_in b.sent)) (fairly-same b.received (front-fair sent b.received rest e h) short) p.sends.causes)
      (caused b.sent bs (passes-fair b p) on)

  whole : (bs : List Between) → (before : List Node) × (nodes_on bs end ≡ before ++ end ∷ [])
  whole [] = ([], refl)
  whole (b ∷ bs) = let w = whole bs in (node_between b ∷ w.0, ap (λ q. node_between b ∷ q) w.1)

  pub tell : (read : Told (List ℕ)) (i : Inside) (sent : List Message) (bs : List Between) → Starts read i sent → PassOn sent bs received
      → AreInRange (all_stages (members (first_node (bytes_of read) i sent ∷ nodes_on bs end)))
      → sees_known_chunks false (all_stages (members (first_node (bytes_of read) i sent ∷ nodes_on bs end))) ≡ true
      → AreCounted 0 (first_node (bytes_of read) i sent ∷ nodes_on bs end)
      → NodesTell after (bytes_of read) (first_node (bytes_of read) i sent ∷ nodes_on bs end) got last
  tell read i sent bs starts on range known counted =
      let fair = starts-fair read i sent starts in
      let first = first_node (bytes_of read) i sent in
      record {
        range = range;
        known = known;
        chained = (
          record {
            from = refl;
            keeps = record { came = read; went = told_by sent; is_came = refl; is_went = refl; flows = starts.flows };
            pieces = starts.pieces;
            bytes = fair-bytes sent fair;
          },
          onward sent bs fair on,
        );
        counted = counted;
        caused = All-cons (CausesIf last) first (nodes_on bs end) (λ bytes short. starts.sends.causes) (caused sent bs fair on);
        ends = record {
          before = first ∷ (whole bs).0;
          tail = end;
          whole = ap (λ q. first ∷ q) (whole bs).1;
          near = λ bytes short. near-by (last-fair sent bs received fair on) bytes short;
        };
      }
