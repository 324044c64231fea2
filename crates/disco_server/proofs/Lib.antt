mod DeskAnswers
mod FirstKeys
mod HubAnswers
mod KeptDocuments
